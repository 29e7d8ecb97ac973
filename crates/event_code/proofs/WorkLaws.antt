-- Items that do an event's operations do the event's work on the chip.
use Rattle.std.specs.List.{AllByRecursion, flat_map}
use Rattle.std.proofs.Common.{◌≡◌, ℕ, ◌+◌, ◌/◌, ◌%◌, ◌<◌, ◌≤◌, ◌⊎◌, Bool, true, false, nat_lt, if◌then◌else◌, Some, List, [], ◌∷◌, map, length, refl, sym, ap, ap₂, subst, ◌∙◌, arith, inl, inr}
use Rattle.std.proofs.lemmas.Bool.{lt-ltb, ltb-true}
use Rattle.std.proofs.lemmas.List.{length-map}
use Rattle.frp_tree.specs.Tree.{ProgramTree}
use Rattle.efrp_meaning.specs.Bounds.{body, state_bytes}
use Rattle.efrp_meaning.specs.Meaning.{State, react}
use Rattle.efrp_meaning.specs.States.{IsState, NamesDiffer}
use Rattle.pic_isa.specs.declared.instructions.Instr.{Instr}
use Rattle.pic_isa.specs.Instructions.{FieldsFit}
use Rattle.pic_regs.specs.Bytes.{Byte, num}
use Rattle.pic_regs.proofs.ByteLaws.{num-below}
use Rattle.pic_machine.specs.Chip.{Chip}
use Rattle.pic_machine.specs.Exec.{field}
use Rattle.pic_machine.specs.Results.{Done}
use Rattle.map_file.specs.declared.maps.Map.{Map}
use Rattle.byte_ops.specs.declared.operations.Op.{Op}
use Rattle.byte_ops.specs.Meaning.{read_by, written_by}
use Rattle.expr_lower.specs.Running.{CanRun, DoAll, HoldBytes}
use Rattle.expr_lower.proofs.OrderLaws.{ends-after, in-more}
use Rattle.bank_alloc.specs.declared.needs.Needs.{Needs}
use Rattle.bank_alloc.specs.Addresses.{address_of, is_general}
use Rattle.bank_alloc.specs.Needs.{bytes_of}
use Rattle.bank_alloc.proofs.AddressLaws.{addresses-general}
use Rattle.code_steps.specs.declared.banks.Bank.{Bank}
use Rattle.code_steps.specs.declared.banks.Bank.TheVariants.{Known}
use Rattle.code_steps.specs.Steps.{Comes}
use Rattle.code_steps.specs.Between.{Alone, Keeps, Others}
use Rattle.code_steps.specs.Ends.{Ended, Own}
use Rattle.code_steps.proofs.BetweenLaws.{alone_keeps}
use Rattle.code_steps.proofs.ComesLaws.{comes_wider}
use Rattle.code_steps.proofs.OwnLaws.{own_wider}
use Rattle.code_items.specs.declared.items.Item.{Item}
use Rattle.code_items.specs.declared.items.Item.TheVariants.{Ins}
use Rattle.code_items.specs.Items.{ItemFits, times}
use Rattle.code_items.specs.Lines.{Stands}
use Rattle.code_acts.specs.Laws.{sets_bank}
use Rattle.code_acts.specs.Standing.{StandFrom}
use Rattle.code_acts.proofs.PartLaws.{stand_of_items}
use Rattle.firmware_promises.specs.Follows.{reaction_puts}
use Rattle.firmware_promises.specs.MapNames.{states_in}
use Rattle.core_story.specs.Values.{name_at}
use Rattle.op_code.specs.Laws.{SameBank}
use Rattle.op_code.specs.Operations.{DoesInOrder, Encloses, IsOperandOrCell, MeansInOrder, bytes_in, cells_of_op, is_one_of}
use Rattle.op_code.proofs.BankLaws.{comes_with_bank}
use Rattle.glue_parts.specs.Moves.{after_moves}
use Rattle.event_ops.specs.declared.results.Copied.{Copied}
use Rattle.event_ops.specs.declared.results.Put.{Put}
use Rattle.event_ops.specs.declared.results.EventOps.{EventOps}
use Rattle.event_ops.specs.Works.{HoldState, IsCopy, IsPut, Reacts as ReactsIn, Works, copied}
use Rattle.firmware_parts.specs.Layout.{Layout}
use Rattle.firmware_parts.specs.Layout.Part.{Work}
use Rattle.firmware_parts.specs.Runs.{Reacts}
use Rattle.firmware_parts.specs.Work.{AtEnd, AtWork, DoesWork, WorkOwn}
use Rattle.event_code.specs.Laws.{KeepsCells, MapReadsStates, WorksCanBeCoded}
use Rattle.event_code.specs.Moves.{move_of, moves_of, put_of}
use Rattle.event_code.specs.States.{state_in}
use Rattle.event_code.proofs.MoveFacts.{after-append, after-copies, after-puts, copied-old, copied-same, put_by, puts-copies, puts-outputs, puts-puts}
use Rattle.event_code.proofs.OrderFacts.{Lie, all-weaker, at-one, cells-lie, do-all, leaves-before, written-lie}
use Rattle.event_code.proofs.StateLaws.{cells_in, numbers-there, state-by-cells, state-held, state-only, values-same, values_from}

-- A map with the program's states reads them off a chip.
pub map_reads_states : (p : ProgramTree) (need : Needs) (m : Map) (c : Chip) → MapReadsStates p need m c
map_reads_states p need m c fits placed same =
    ap (λ ss. states_in (record m { states = ss }) c) same ∙ numbers-there need fits c.regs 0 p.decls (omega (arith, placed))

-- Operations on cells that are placed.
more-run : (a b : ℕ) → a ≤ b → (op : Op) → CanRun a op → CanRun b op
more-run a b more op runs = record {
  kind = runs.kind;
  written_in = in-more a b (written_by op) more runs.written_in;
  read_in = in-more a b (read_by op) more runs.read_in;
  apart = runs.apart;
  differ = runs.differ;
}

pub works_can_be_coded : (p : ProgramTree) (event : List ℕ) (cells : ℕ) (ops : EventOps) → WorksCanBeCoded p event cells ops
works_can_be_coded p event cells ops works placed =
    let states = state_bytes p in
    let few = ends-after states ops.ops ops.cells works.order in
    record {
      runs = all-weaker (CanRun ops.cells) (CanRun cells) ops.ops (more-run ops.cells cells placed) works.runs;
      copies = all-weaker (IsCopy states ops.cells) (λ (c : Copied). (c.from < cells) × (c.to < cells)) ops.copies
          (λ c is. let given = is.given in let to = is.to in (omega (arith, given, placed), omega (arith, to, few, placed))) works.copies;
      puts = all-weaker (IsPut states ops.cells) (λ (q : Put). q.from < cells) ops.puts (λ q is. let given = is.given in omega (arith, given, placed)) works.puts;
    }

-- Items that are instructions fit, and have no mark.
items-fit : (instrs : List Instr) → AllByRecursion (λ i. FieldsFit i × (field i ≡ Some 0x0A → ⊥)) instrs → AllByRecursion ItemFits (map Ins instrs)
items-fit [] all = tt
items-fit (i ∷ more) all = (all.0.0, items-fit more all.1)

no-marks : (m : ℕ) (instrs : List Instr) → times m (map Ins instrs) ≡ 0
no-marks m [] = refl
no-marks m (i ∷ more) = let rest = no-marks m more in omega (arith, rest)

choice : (b : Bool) (x : ℕ) → b ≡ true → (if b then x else 0) ≡ x
choice b x is = ap (λ t. if t then x else 0) is

choice-below : (b : Bool) (x : ℕ) → x < 256 → (if b then x else 0) < 256
choice-below true x below = below
choice-below false x below = omega arith

module _ (p : ProgramTree) (m : Map) (need : Needs) (ops : EventOps) (l : Layout) (e : ℕ) (bank : Bank) (items : List Item) (differ : NamesDiffer p) (works : Works p (name_at m e) ops)
    (fits : bytes_of need ≤ 352) (placed : ops.cells ≤ bytes_of need) (does : DoesInOrder ops.ops need (Known 0) bank items) (keeps : KeepsCells p need ops l e) where
  abbrev states : ℕ
  states = state_bytes p

  abbrev written : List ℕ
  written = flat_map written_by ops.ops

  abbrev May : ℕ → Type 0
  May = IsOperandOrCell need (is_one_of written)

  abbrev Wide : ℕ → Type 0
  Wide address = l.may (Work e) address ≡ true

  few : states ≤ ops.cells
  few = ends-after states ops.ops ops.cells works.order

  -- What the steps may write, the work may write; PCLATH isn't among it.
  may : (address : ℕ) → May address → Wide address
  may address (inl operand) = keeps.operands address operand
  may address (inr (cell, below, is, at)) =
      let lies = at-one (Lie states ops.cells) written cell (written-lie states states ops.ops ops.cells (omega arith) works.order) is in
      subst Wide (sym at) (keeps.scratch cell lies.0 lies.1)

  no_pclath : May 0x00A → ⊥
  no_pclath (inl operand) = let from = operand.0 in omega (arith, from)
  no_pclath (inr (cell, below, is, at)) =
      let clash : false ≡ true = subst (λ a. is_general a ≡ true) (sym at) (addresses-general need fits cell below) in cc

  -- Where all cells lie in bank 0, no bank bit is set.
  none_set : l.is_locked e ≡ true → l.saves_status ≡ false → AllByRecursion (λ i. sets_bank i ≡ false) does.instrs
  none_set locked saves =
      (does.stays 0 refl
      (all-weaker (λ cell. cell < ops.cells) (λ cell. address_of need cell / 128 ≡ 0) (flat_map cells_of_op ops.ops)
      (λ cell below. let low = keeps.low locked saves cell below in omega (arith, low)) (cells-lie ops.cells ops.ops works.runs))).0

  count : length items ≡ length does.instrs
  count = ap length does.are.all ∙ length-map does.instrs Ins

  kept_page : (d : Chip) (done : Done) → (done.chip.regs.pclath ≡ d.regs.pclath) ⊎ May 0x00A → done.chip.regs.pclath ≡ d.regs.pclath
  kept_page d done (inl same) = same
  kept_page d done (inr allowed) = absurd (no_pclath allowed)

  -- What the items come to, as steps of the event's work.
  as_work : (R : Chip → Chip → Type 0) (Post : Chip → Type 0) (paged : Bool) (marks : ℕ → ℕ) (q : ℕ) (c : Chip) → AtWork l paged marks q items c
      → Comes l.program R (Own May c.pc (c.pc + length items)) Post (length items) c → Comes l.program R (WorkOwn l e c.pc (c.pc + length items)) Post (length items) c
  as_work R Post paged marks q c at come =
      let instrs = does.instrs in
      let room = at.room in
      let stand : StandFrom l.program c.pc instrs = stand_of_items paged l.program marks c.pc q instrs (subst (λ xs. Stands paged l.program marks c.pc xs q) does.are.all at.stand) in
      let own = subst (λ n. Comes l.program R (Own May c.pc (c.pc + n)) Post (length items) c) count come in
      let banked = comes_with_bank l.program R May c.pc instrs stand (omega (arith, room, count)) does.are.status Post (length items) c own in
      let Step : Chip → Done → Type 0 = λ d done. Own May c.pc (c.pc + length instrs) d done × (AllByRecursion (λ i. sets_bank i ≡ false) instrs → SameBank d done.chip) in
      comes_wider l.program R R Step (WorkOwn l e c.pc (c.pc + length items)) Post Post
      (λ x y r. r)
      (λ d done step. record {
        own = own_wider May Wide c.pc (c.pc + length instrs) c.pc (c.pc + length items) may (omega arith) (omega (arith, count)) d done step.0;
        page = kept_page d done step.0.pclath;
        bank = λ locked saves holds. let same = step.1 (none_set locked saves) in (same.rp1 ∙ holds.0, same.rp0 ∙ holds.1);
      })
      (λ d post. post)
      (length items) c banked

  ends : (paged : Bool) (marks : ℕ → ℕ) (q : ℕ) (c : Chip) → AtWork l paged marks q items c
      → Comes l.program Others (WorkOwn l e c.pc (c.pc + length items)) (AtEnd bank c items) (length items) c
  ends paged marks q c at =
      let stop = c.pc + length items in
      let G : Chip → Done → Type 0 = Own May c.pc stop in
      as_work Others (AtEnd bank c items) paged marks q c at
      (comes_wider l.program Others Others G G (λ d. Ended (stop % 8192) bank d × (d.regs.pclath ≡ c.regs.pclath) × Unit {0}) (AtEnd bank c items)
      (λ x y r. r) (λ d done step. step) (λ d end. record { there = end.0.0; bank = end.0.1; page = end.1 }) (length items) c
      (does.ends paged l.program marks q c (record { pc = at.pc; room = at.room; stand = at.stand; holds = at.holds })))

  -- All placed cells are told of.
  abbrev picked : ℕ → Bool
  picked cell = nat_lt cell (bytes_of need)

  enclosed : Encloses need (flat_map cells_of_op ops.ops) picked
  enclosed = record {
    placed = λ cell is. ltb-true cell (bytes_of need) is;
    own = all-weaker (λ cell. cell < ops.cells) (λ cell. picked cell ≡ true) (flat_map cells_of_op ops.ops)
        (λ cell below. lt-ltb cell (bytes_of need) (omega (arith, below, placed))) (cells-lie ops.cells ops.ops works.runs);
  }

  bytes_there : (c : Chip) (cell : ℕ) → cell < bytes_of need → bytes_in need picked c cell ≡ cells_in need c.regs.plain cell
  bytes_there c cell below = choice (picked cell) (num (c.regs.plain (address_of need cell))) (lt-ltb cell (bytes_of need) below)

  hold_bytes : (c : Chip) → HoldBytes (bytes_in need picked c)
  hold_bytes c cell = choice-below (picked cell) (num (c.regs.plain (address_of need cell))) (num-below (c.regs.plain (address_of need cell)))

  -- Cells of states that hold the same hold the same state.
  same_values : (f g : ℕ → ℕ) → ((cell : ℕ) → cell < states → f cell ≡ g cell) → values_from f 0 p.decls ≡ values_from g 0 p.decls
  same_values f g same = values-same states f g same 0 p.decls (omega arith)

  module _ (c d : Chip) (is_state : IsState p (l.states c.regs.plain)) (means : MeansInOrder ops.ops (bytes_in need picked c) (bytes_in need picked d)) where
    abbrev start : ℕ → ℕ
    start = bytes_in need picked c

    abbrev finish : ℕ → ℕ
    finish = bytes_in need picked d

    abbrev before : State
    before = l.states c.regs.plain

    read_before : before ≡ values_from start 0 p.decls
    read_before =
        keeps.states c.regs.plain ∙ state-by-cells p need c.regs.plain
        ∙ same_values (cells_in need c.regs.plain) start (λ cell below. sym (bytes_there c cell (omega (arith, below, few, placed))))

    hold : HoldState p before start
    hold = subst (λ s. HoldState p s start) (sym read_before) (state-held p differ start)

    done : DoAll ops.ops start finish
    done = do-all states ops.ops ops.cells start finish works.order (hold_bytes c) (hold_bytes d) means

    result : ReactsIn p before (name_at m e) ops finish
    result = works.gives before start finish is_state (hold_bytes c) hold done

    read_after : l.states d.regs.plain ≡ before
    read_after =
        keeps.states d.regs.plain ∙ state-by-cells p need d.regs.plain
        ∙ same_values (cells_in need d.regs.plain) start (λ cell below.
        sym (bytes_there d cell (omega (arith, below, few, placed))) ∙ leaves-before states ops.ops ops.cells start finish works.order means cell below)
        ∙ sym read_before

    -- The plain bytes once the copies are made.
    abbrev after : ℕ → Byte
    after = after_moves (map (move_of need) ops.copies) d.regs.plain

    all_after : after_moves (moves_of need ops) d.regs.plain ≡ after
    all_after = after-append (map (move_of need) ops.copies) (map (put_of need) ops.puts) d.regs.plain ∙ after-puts need ops.puts after

    cells_after : (cell : ℕ) → cell < bytes_of need → cells_in need after cell ≡ copied ops.copies finish cell
    cells_after cell below =
        after-copies need fits states ops.cells few placed ops.copies works.copies works.once d.regs.plain cell below
        ∙ copied-same need fits states ops.cells few placed (cells_in need d.regs.plain) finish (λ other inside. sym (bytes_there d other inside)) ops.copies works.copies cell below

    next : l.next_of e d.regs.plain ≡ result.reaction.state
    next =
        keeps.next d.regs.plain ∙ ap (state_in p need) all_after ∙ state-by-cells p need after
        ∙ same_values (cells_in need after) (copied ops.copies finish) (λ cell below. cells_after cell (omega (arith, below, few, placed)))
        ∙ sym (state-only p differ (copied ops.copies finish) result.reaction.state result.is_state result.states)

    -- A cell that is put is none of a state's.
    same_puts : (qs : List Put) → AllByRecursion (IsPut states ops.cells) qs → map (put_by (cells_in need after)) qs ≡ map (put_by finish) qs
    same_puts [] all = refl
    same_puts (q ∷ qs) all =
        let old = all.0.old in
        let given = all.0.given in
        let same : cells_in need after q.from ≡ finish q.from =
        cells_after q.from (omega (arith, given, placed)) ∙ copied-old need fits states ops.cells few placed ops.copies works.copies finish q.from old in
        ap₂ (λ n ws. record { port = q.port; byte = n } ∷ ws) same (same_puts qs all.1)

    puts : l.puts_of e d.regs.plain ≡ reaction_puts p result.reaction.ports
    puts =
        keeps.puts d.regs.plain ∙ puts-copies need ops.copies (map (put_of need) ops.puts) d.regs.plain ∙ puts-puts need ops.puts after
        ∙ same_puts ops.puts works.puts ∙ sym (puts-outputs finish ops.puts p.outputs works.ports)
        ∙ ap (reaction_puts p) result.ports

    reaction : Reacts p m l e d.regs.plain
    reaction = record {
      reaction = result.reaction;
      defined = ap (λ s. react p s [] (name_at m e)) read_after ∙ result.is;
      next = next;
      puts = puts;
    }

  reacts : (paged : Bool) (marks : ℕ → ℕ) (q : ℕ) (c : Chip) → AtWork l paged marks q items c → IsState p (l.states c.regs.plain)
      → Comes l.program Alone (WorkOwn l e c.pc (c.pc + length items)) (λ d. AtEnd bank c items d × Reacts p m l e d.regs.plain) (length items) c
  reacts paged marks q c at is_state =
      let stop = c.pc + length items in
      let G : Chip → Done → Type 0 = Own May c.pc stop in
      let R = Keeps (IsOperandOrCell need picked) in
      let Meant : Chip → Type 0 = λ d. MeansInOrder ops.ops (bytes_in need picked c) (bytes_in need picked d) in
      as_work Alone (λ d. AtEnd bank c items d × Reacts p m l e d.regs.plain) paged marks q c at
      (comes_wider l.program R Alone G G (λ d. Ended (stop % 8192) bank d × (d.regs.pclath ≡ c.regs.pclath) × Meant d) (λ d. AtEnd bank c items d × Reacts p m l e d.regs.plain)
      (λ x y r. alone_keeps (IsOperandOrCell need picked) x y r) (λ d done step. step)
      (λ d end. (record { there = end.0.0; bank = end.0.1; page = end.1 }, reaction c d is_state end.2)) (length items) c
      (does.leaves picked enclosed paged l.program marks q c (record { pc = at.pc; room = at.room; stand = at.stand; holds = at.holds })))

  pub does_event_work : DoesWork p m l (body p (name_at m e)) bank e items
  does_event_work = record {
    few = let short = does.words.0 in let light = does.words.1 in let weight = works.weight in omega (arith, short, light, weight);
    last = does.are.last;
    fit = subst (AllByRecursion ItemFits) (sym does.are.all) (items-fit does.instrs does.are.fit);
    no_mark = λ mark. ap (times mark) does.are.all ∙ no-marks mark does.instrs;
    ends = ends;
    reacts = reacts;
  }
