-- What the run of an event does on the chip, part by part.
use Rattle.std.specs.Prelude.{◌≡◌, ℕ, suc, ◌<◌, ◌==◌, Bool, true, false, Some, None, List, [], ◌++◌, ◌⊎◌, IfSome}
use Rattle.std.specs.List.{cons_option}
use Rattle.frp_tree.specs.Tree.{ProgramTree}
use Rattle.efrp_meaning.specs.Meaning.{Reaction, react}
use Rattle.efrp_meaning.specs.States.{IsState}
use Rattle.pic_regs.specs.declared.places.Place.TheVariants as place
use Rattle.pic_regs.specs.Bytes.{Byte, zeros}
use Rattle.pic_machine.specs.declared.steps.PortWrite.{PortWrite}
use Rattle.pic_machine.specs.Chip.{Chip}
use Rattle.pic_machine.specs.Results.{Done}
use Rattle.map_file.specs.declared.maps.Map.{Map}
use Rattle.firmware_promises.specs.Follows.{reaction_puts}
use Rattle.timed_core.specs.Timing.{Timing}
use Rattle.core_story.specs.Values.{name_at}
use Rattle.code_steps.specs.declared.banks.Bank.TheVariants.{Known}
use Rattle.code_steps.specs.Steps.{Comes, next, own}
use Rattle.code_steps.specs.Between.{Others, Alone}
use Rattle.code_steps.specs.Ends.{Holds, with_work_of}
use Rattle.glue_steps.specs.declared.lines.Line.{Line}
use Rattle.glue_steps.specs.declared.lines.Line.TheVariants.{Bit, Lower}
use Rattle.glue_steps.specs.Lines.{did}
use Rattle.glue_steps.specs.Laws.{StillIn}
use Rattle.glue_steps.specs.Still.{Off}
use Rattle.glue_steps.specs.Tells.{Tells}
use Rattle.firmware_parts.specs.Layout.{Layout, Part, Easy, Usual, is_told, piece}
use Rattle.firmware_parts.specs.Layout.Part.{Start, Begin, Work, Lock, Open, Copying, Commit, Exit}
use Rattle.firmware_parts.specs.Contexts.{AtLevel, Back, Entered, SameEnables}

-- Whatever arrives, the next step of the code is one with G, and Q holds of the chip before it and of what it does.
abbrev pub Runs : (program : ℕ → ℕ) (G : Chip → Done → Type 0) (Q : Chip → Done → Type 0) → Chip → Type 0
Runs program G Q c = (d : Chip) → Alone c d → (done : Done) × (own program d ≡ Some done) × G d done × Q d done

-- The code of a part leads over arrivals alone, within some steps, to a chip with Q, and puts these bytes on ports.
abbrev pub Leads : Layout → Part → (Q : Chip → Type 0) → List PortWrite → ℕ → Chip → Type 0
Leads l part Q puts k c = Tells l.program (StillIn l.program (piece l part)) Q puts k c

-- GIE is made what is given.
abbrev pub turns : Bool → Line
turns on = Bit on place.Intcon 7

-- A step of work: it runs at a place of the work, or of the way back to the lock, but not at the lock; it isn't RETFIE, and changes the
-- program counter, W, the bank bits, Z, DC and C, PCLATH where it may, and plain bytes that it may write. Where the work may be
-- interrupted it leaves what a taking counts on.
pub record WorkStep (l : Layout) (e : ℕ) (d : Chip) (done : Done) : Type 0 where
  pub inside : l.inside (Work e) d.pc ≡ true
  pub no_lock : d.pc ≡ l.lock e → ⊥
  pub no_return : (l.program d.pc == 0x0009) ≡ false
  pub kept : done.chip ≡ with_work_of done.chip d
  pub easy : Easy l d → Easy l done.chip
  pub usual : l.is_locked e ≡ true → Usual l d → Usual l done.chip
  pub plain : (address : ℕ) → (done.chip.regs.plain address ≡ d.regs.plain address) ⊎ (l.may (Work e) address ≡ true)
  pub wrote : IfSome done.wrote (λ address. (address ≡ 0x003) ⊎ (l.may (Work e) address ≡ true))
  pub port : done.port ≡ None

-- Whole runs of others came between, and interrupts are on.
pub record Returned (c d : Chip) : Type 0 where
  pub others : Others c d
  pub on : d.regs.intcon.b7 ≡ true

-- At the lock of an event's work, in the bank that it has there.
pub record AtLock (l : Layout) (e : ℕ) (c : Chip) : Type 0 where
  pub there : c.pc ≡ l.lock e
  pub bank : Holds (l.bank e) c

-- What the window of an event would copy and put is the reaction to it, from the state that stands.
pub record Reacts (p : ProgramTree) (m : Map) (l : Layout) (e : ℕ) (plain : ℕ → Byte) : Type 0 where
  pub reaction : Reaction
  pub defined : react p (l.states plain) [] (name_at m e) ≡ Some reaction
  pub next : l.next_of e plain ≡ reaction.state
  pub puts : l.puts_of e plain ≡ reaction_puts p reaction.ports

-- Within k steps of its own the work of an event comes to its lock, whatever runs of others do between; and so, with the reaction, where
-- only sources arrive.
abbrev pub Void : Layout → ℕ → ℕ → Chip → Type 0
Void l e k c = Comes l.program Returned (WorkStep l e) (AtLock l e) k c

abbrev pub Clean : ProgramTree → Map → Layout → ℕ → ℕ → Chip → Type 0
Clean p m l e k c = Comes l.program Alone (WorkStep l e) (λ d. AtLock l e d × Reacts p m l e d.regs.plain) k c

-- At the clearing of the event's flag. `Saved x c` says that the chip `c` has what is needed to give back the context of `x`. Where
-- interrupts stay off, the work is done; else the enables are those of the event's level.
pub record AtClear (p : ProgramTree) (m : Map) (l : Layout) (Saved : ℕ → Chip → Chip → Type 0) (e : ℕ) (x c : Chip) : Type 0 where
  pub there : c.pc ≡ l.clear e
  pub off : Off c
  pub easy : Easy l c
  pub saved : Saved e x c
  pub masked : l.is_short e ≡ false → AtLevel l (l.level e) c
  pub bank : l.is_short e ≡ false → Holds (Known 0) c
  pub done : l.is_short e ≡ true → Reacts p m l e c.regs.plain
  pub open_bank : l.is_short e ≡ true → Holds (l.bank e) c

-- At the step that turns interrupts on; the work stands directly behind it.
pub record AtOn (l : Layout) (e : ℕ) (c : Chip) : Type 0 where
  pub there : c.pc ≡ l.on e
  pub off : Off c
  pub easy : Easy l c
  pub bank : Holds (Known 0) c
  pub untold : l.is_locked e ≡ true → is_told c ≡ false
  pub usual : l.is_locked e ≡ true → Usual l c

pub record AtOpen (l : Layout) (e : ℕ) (c : Chip) : Type 0 where
  pub there : c.pc ≡ l.opens e
  pub off : Off c
  pub easy : Easy l c
  pub bank : Holds (l.bank e) c

-- What the step at the commit leaves, where the window was opened on the chip `c`: the states that its copies make; it puts the last
-- byte, where one is left.
pub record Committed (l : Layout) (e : ℕ) (c : Chip) (late : List PortWrite) (d : Chip) (done : Done) : Type 0 where
  pub states : l.states done.chip.regs.plain ≡ l.next_of e c.regs.plain
  pub puts : cons_option done.port [] ≡ late
  pub there : done.chip.pc ≡ next (l.commits e)
  pub told : l.is_telling e ≡ true → is_told done.chip ≡ true
  pub bank : Holds (l.exit_bank e) done.chip

pub record AtCommit (l : Layout) (e : ℕ) (c : Chip) (late : List PortWrite) (d : Chip) : Type 0 where
  pub there : d.pc ≡ l.commits e
  pub off : Off d
  pub runs : Runs l.program (StillIn l.program (piece l (Commit e))) (Committed l e c late) d

-- What the step at the open leaves: nothing is put, and the copies come to the commit.
pub record Opened (l : Layout) (e : ℕ) (k : ℕ) (c : Chip) (d : Chip) (done : Done) : Type 0 where
  pub port : done.port ≡ None
  pub early : List PortWrite
  pub late : List PortWrite
  pub puts : l.puts_of e c.regs.plain ≡ early ++ late
  pub copies : Leads l (Copying e) (AtCommit l e c late) early k done.chip

-- At the return, with the context of what was interrupted.
pub record AtReturn (l : Layout) (x c : Chip) : Type 0 where
  pub word : l.program c.pc ≡ 0x0009
  pub back : Back x c

-- The run of an event. `starting` bounds the steps from its start to the clearing of its flag.
pub record DoesRun (p : ProgramTree) (m : Map) (t : Timing) (l : Layout) (Saved : ℕ → Chip → Chip → Type 0) (starting : ℕ) (e : ℕ) : Type 0 where
  -- What is saved lies in the frame, but for enables that the run doesn't change.
  pub saved_stays : (x c d : Chip) → Saved e x c → SameEnables c d → ((address : ℕ) → l.frame e address ≡ true → d.regs.plain address ≡ c.regs.plain address) → Saved e x d
  -- At level 0 it is the ready address that was interrupted. RBIE is clear.
  pub starts : (x c : Chip) (low : ℕ) → c.pc ≡ l.entry e → Off c → c.regs.intcon.b3 ≡ false → Usual l x → Entered l x c → AtLevel l low x → low < l.level e
      → (low ≡ 0 → Holds (Known 0) x × (x.regs.pclath ≡ zeros)) → IsState p (l.states c.regs.plain)
      → Leads l (Start e) (AtClear p m l Saved e x) [] starting c
  pub clears : (c : Chip) → c.pc ≡ l.clear e → (l.is_short e ≡ false → Holds (Known 0) c) → (l.is_short e ≡ true → Holds (l.bank e) c) → own l.program c ≡ Some (did (Lower (l.source e)) c)
  pub opens_next : l.is_short e ≡ true → next (l.clear e) ≡ l.opens e
  pub begins : (c : Chip) → l.is_short e ≡ false → c.pc ≡ next (l.clear e) → Off c → Easy l c → Holds (Known 0) c → Leads l (Begin e) (AtOn l e) [] t.start c
  pub turns_on : (c : Chip) → l.is_short e ≡ false → c.pc ≡ l.on e → own l.program c ≡ Some (did (turns true) c)
  pub work_next : l.is_short e ≡ false → next (l.on e) ≡ l.work e
  pub void : (c : Chip) → l.is_short e ≡ false → c.pc ≡ l.work e → Holds (Known 0) c → Void l e (t.body e) c
  pub clean : (c : Chip) → l.is_short e ≡ false → c.pc ≡ l.work e → Holds (Known 0) c → IsState p (l.states c.regs.plain) → Clean p m l e (t.body e) c
  pub turns_off : (c : Chip) → l.is_short e ≡ false → c.pc ≡ l.lock e → own l.program c ≡ Some (did (turns false) c)
  -- Where the lock's step was the last one before a late taking, interrupts are on behind it when its run goes on: it comes back.
  pub slips : (c : Chip) → l.is_locked e ≡ true → c.pc ≡ next (l.lock e) → Holds (l.bank e) c → Usual l c → Void l e t.retry c
  pub repeats : (c : Chip) → l.is_locked e ≡ true → c.pc ≡ next (l.lock e) → Off c → Easy l c → Holds (l.bank e) c → is_told c ≡ true → Leads l (Begin e) (AtOn l e) [] t.again c
  pub passes : (c : Chip) → l.is_short e ≡ false → c.pc ≡ next (l.lock e) → Off c → Easy l c → Holds (l.bank e) c → (l.is_locked e ≡ true → is_told c ≡ false)
      → Leads l (Lock e) (AtOpen l e) [] t.opening c
  pub window : (c : Chip) → AtOpen l e c → Runs l.program (StillIn l.program (piece l (Open e))) (Opened l e t.copying c) c
  pub exits : (x c : Chip) → c.pc ≡ next (l.commits e) → Off c → Easy l c → Saved e x c → Holds (l.exit_bank e) c → Leads l (Exit e) (AtReturn l x) [] t.exiting c
