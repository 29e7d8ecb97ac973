-- Facts on files before and after, where they are told, through steps that keep them.
use Rattle.std.proofs.Common.{◌≡◌, ℕ, List, Option, Some, None, refl, ◌∙◌, subst}
use Rattle.edge_io.specs.Files.{Held, FilesSeen, SameFiles, BothThere, BothTold, IfThere, IfTold, KeepsFiles}

same_there : (files : Option Held) → BothThere files files SameFiles
same_there None = tt
same_there (Some held) = λ name. refl

pub keeps_refl : (seen : FilesSeen) → KeepsFiles seen seen
keeps_refl seen = same_there seen.told

chain_there : (a b c : Option Held) (P Q R : Held → Held → Type 0) → ((old mid new : Held) → P old mid → Q mid new → R old new) → BothThere a b P → BothThere b c Q → BothThere a c R
chain_there None None None P Q R step p q = tt
chain_there None None (Some new) P Q R step p q = q
chain_there None (Some mid) c P Q R step p q = absurd p
chain_there (Some old) None c P Q R step p q = absurd p
chain_there (Some old) (Some mid) None P Q R step p q = q
chain_there (Some old) (Some mid) (Some new) P Q R step p q = step old mid new p q

-- What two steps leave, one after the other.
pub chain : (a b c : FilesSeen) (P Q R : Held → Held → Type 0) → ((old mid new : Held) → P old mid → Q mid new → R old new) → BothTold a b P → BothTold b c Q → BothTold a c R
chain a b c P Q R step p q = chain_there a.told b.told c.told P Q R step p q

pub keeps_trans : (a b c : FilesSeen) → KeepsFiles a b → KeepsFiles b c → KeepsFiles a c
keeps_trans a b c first second = chain a b c SameFiles SameFiles SameFiles (λ old mid new h k name. k name ∙ h name) first second

both_there : (a b : Option Held) (P Q : Held → Held → Type 0) → ((old new : Held) → P old new → Q old new) → BothThere a b P → BothThere a b Q
both_there None None P Q step both = tt
both_there None (Some new) P Q step both = both
both_there (Some old) None P Q step both = both
both_there (Some old) (Some new) P Q step both = step old new both

pub both_map : (a b : FilesSeen) (P Q : Held → Held → Type 0) → ((old new : Held) → P old new → Q old new) → BothTold a b P → BothTold a b Q
both_map a b P Q step both = both_there a.told b.told P Q step both

if_there : (files : Option Held) (P Q R : Held → Type 0) → ((held : Held) → P held → Q held → R held) → IfThere files P → IfThere files Q → IfThere files R
if_there None P Q R step p q = tt
if_there (Some held) P Q R step p q = step held p q

pub if_both : (seen : FilesSeen) (P Q R : Held → Type 0) → ((held : Held) → P held → Q held → R held) → IfTold seen P → IfTold seen Q → IfTold seen R
if_both seen P Q R step p q = if_there seen.told P Q R step p q

pub if_map : (seen : FilesSeen) (P R : Held → Type 0) → ((held : Held) → P held → R held) → IfTold seen P → IfTold seen R
if_map seen P R step p = if_both seen P P R (λ held a b. step held a) p p

all_there : (files : Option Held) (R : Held → Type 0) → ((held : Held) → R held) → IfThere files R
all_there None R step = tt
all_there (Some held) R step = step held

pub if_all : (seen : FilesSeen) (R : Held → Type 0) → ((held : Held) → R held) → IfTold seen R
if_all seen R step = all_there seen.told R step

-- What is said of the files is said of those that are told.
pub at_told : (seen : FilesSeen) (held : Held) (P : Held → Type 0) → seen.told ≡ Some held → IfTold seen P → P held
at_told seen held P told p = subst (λ (files : Option Held). IfThere files P) told p

there_before : (a b : Option Held) (name : List ℕ) (P : Option (List ℕ) → Type 0) → BothThere a b SameFiles → IfThere b (λ held. P (held name)) → IfThere a (λ held. P (held name))
there_before None b name P keeps told = tt
there_before (Some old) None name P keeps told = absurd keeps
there_before (Some old) (Some new) name P keeps told = subst P (keeps name) told

-- What is told of a file after a step that kept all is told of it before.
pub told_before : (a b : FilesSeen) (name : List ℕ) (P : Option (List ℕ) → Type 0) → KeepsFiles a b → IfTold b (λ held. P (held name)) → IfTold a (λ held. P (held name))
told_before a b name P keeps told = there_before a.told b.told name P keeps told
