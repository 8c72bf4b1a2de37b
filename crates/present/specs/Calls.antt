-- What offering a move answers, and what a replay holds after it, over what it holds now: its own data and the lists of its
-- store buffer, whether or not the two agree.
-- found_in          what a load finds: what the buffer tells, and then its source is the youngest store that the actions leave
--                   waiting; where the buffer tells none, what memory gives
-- tested_held       the refusal of a move, if it is refused
-- outcome_held      the answer, or the refusal
-- after_offer_held  what the replay holds then; a refused move leaves all as it was
use Rattle.std.specs.Prelude.{ℕ, Bool, not, ◌&&◌, ◌||◌, List, [], ◌∷◌, ◌++◌, length, is_some, Some, None, Option, Result, ◌==◌, nat_le, slice_index_or, slice_set}
use Rattle.std.specs.List.{slice_get}
use Rattle.std.specs.Option.{unwrap_or}
use Rattle.refusal.specs.declared.Refusal.{Refusal}
use Rattle.refusal.specs.declared.Refusal.TheVariants.{ThreadOutOfRange, NoSuchInstruction, AtAnotherLabel, RunFull, ThreadNotFree, FenceBeforeDrain, CellOutOfRange, AssertFailed, BufferFull, DrainNotFree, StoreNotWaiting}
use Rattle.program.specs.declared.forms.Instruction.{Instruction}
use Rattle.program.specs.declared.forms.Instruction.TheVariants.{Load, Store, Fence, Compute, Assert}
use Rattle.program.specs.declared.lines.Line.{Line}
use Rattle.buffers.specs.Calls.{store}
use Rattle.buffers.specs.Laws.{Rules}
use Rattle.buffers.specs.Lists.{Lists, list_of, newest_to, oldest_to, without_oldest}
use Rattle.ledger.specs.Actions.{Access, Action, Source, from, loads, name, none, stores}
use Rattle.ledger.specs.Answers.{answered}
use Rattle.ledger.specs.Ledgers.{operand, update}
use Rattle.ledger.specs.Moves.{Read, act, asked, ran}
use Rattle.ledger.specs.Tests.{guard}
use Rattle.ledger.specs.declared.moves.Move.{Move}
use Rattle.ledger.specs.declared.moves.Move.TheVariants.{Run, Drain}
use Rattle.present.specs.Data.{Held, Noted, Present, how_many_in, nothing_noted, oldest_left, waiting_of, youngest_left}

-- by what the buffer tells, and by which action is left waiting
abbrev pub told : ℕ → Option ℕ → Option ℕ → Read → Read
told t None left memory = memory
told t (Some v) None memory = memory
told t (Some v) (Some p) memory = record { source = from (name t p); value = v }

abbrev pub found_in : Held → ℕ → ℕ → Read
found_in h t c = told t (newest_to c (waiting_of h t)) (youngest_left 0 c (h.own.noted t)) (h.own.memory c)

abbrev pub action_held : Held → ℕ → ℕ → Line → Action
action_held h t n line = let rs = (h.own.locals t).registers in act rs n line.instruction (found_in h t (asked rs line.instruction))

-- the buffer tells a store, and the actions leave none waiting
abbrev pub unknown : Option ℕ → Option ℕ → Bool
unknown told left = is_some told && not (is_some left)

-- the tests of each form
abbrev pub form_tested_held : Held → ℕ → Instruction → Option Refusal
form_tested_held h t (Load register address) =
    let c = operand (h.own.locals t).registers address in
    guard (nat_le 16 c) CellOutOfRange (guard (unknown (newest_to c (waiting_of h t)) (youngest_left 0 c (h.own.noted t))) StoreNotWaiting None)
form_tested_held h t (Store address value) =
    guard (nat_le 16 (operand (h.own.locals t).registers address)) CellOutOfRange (guard (nat_le 16 (length (waiting_of h t))) BufferFull None)
form_tested_held h t Fence = guard (nat_le 1 (length (waiting_of h t))) FenceBeforeDrain None
form_tested_held h t (Compute register operation a b) = None
form_tested_held h t (Assert condition) = guard (operand (h.own.locals t).registers condition == 0) AssertFailed None

abbrev pub line_tested_held : Rules → Held → ℕ → Option Line → Option Refusal
line_tested_held rules h t None = Some NoSuchInstruction
line_tested_held rules h t (Some line) =
    guard (not (line.thread == t)) NoSuchInstruction
    (guard (not (line.label == (h.own.locals t).label)) AtAnotherLabel
    (guard (nat_le 256 (how_many_in h.own)) RunFull
    (guard (not (rules.steps h.lists t)) ThreadNotFree
    (form_tested_held h t line.instruction))))

abbrev pub tested_held : Rules → List Line → Held → Move → Option Refusal
tested_held rules ls h (Run t n) = guard (nat_le 8 t) ThreadOutOfRange (line_tested_held rules h t (slice_get ls n))
tested_held rules ls h (Drain t c) =
    guard (nat_le 8 t) ThreadOutOfRange
    (guard (nat_le 16 c) CellOutOfRange
    (guard (not (rules.drains h.lists t c)) DrainNotFree
    (guard (not (is_some (oldest_left 0 c (h.own.noted t)))) StoreNotWaiting None)))

-- a store goes into the buffer
abbrev pub put_in : Lists → ℕ → ℕ → Access → Lists
put_in lists t v none = lists
put_in lists t v (stores c) = slice_set lists t (list_of lists t ++ store c v ∷ [])
put_in lists t v (loads c source) = lists

-- The action is kept, the thread moves on, and it delayed if a store of its own waited.
abbrev pub noted_run : Held → ℕ → Line → Action → Present
noted_run h t line a = record {
  locals = update h.own.locals t (ran line a.value (h.own.locals t));
  memory = h.own.memory;
  noted = update h.own.noted t (h.own.noted t ++ record { action = a; over = None } ∷ []);
  delayed = update h.own.delayed t (h.own.delayed t || nat_le 1 (length (waiting_of h t)));
}

abbrev pub ran_with : Held → ℕ → Line → Action → Held
ran_with h t line a = record { own = noted_run h t line a; lists = put_in h.lists t a.value a.access }

abbrev pub after_run_held : Held → ℕ → ℕ → Option Line → Held
after_run_held h t n None = h
after_run_held h t n (Some line) = ran_with h t line (action_held h t n line)

-- the kept action at the position p overwrote what s stands for
abbrev pub overwriting : Source → ℕ → List Noted → List Noted
overwriting s p xs = slice_set xs p (record { action = (slice_index_or xs p nothing_noted).action; over = Some s })

-- One kept action is changed, that of the drained store, and memory gives its value from now on.
abbrev pub noted_drain : Present → ℕ → ℕ → ℕ → ℕ → Present
noted_drain own t c v p = record {
  locals = own.locals;
  memory = update own.memory c (record { source = from (name t p); value = v });
  noted = update own.noted t (overwriting (own.memory c).source p (own.noted t));
  delayed = own.delayed;
}

-- by the value that the buffer gives, and by which action is left waiting
abbrev pub after_drain_held : Held → ℕ → ℕ → Option ℕ → Option ℕ → Held
after_drain_held h t c None left = h
after_drain_held h t c (Some v) None = h
after_drain_held h t c (Some v) (Some p) = record { own = noted_drain h.own t c v p; lists = slice_set h.lists t (without_oldest c (waiting_of h t)) }

abbrev pub after_move_held : List Line → Held → Move → Held
after_move_held ls h (Run t n) = after_run_held h t n (slice_get ls n)
after_move_held ls h (Drain t c) = after_drain_held h t c (oldest_to c (waiting_of h t)) (oldest_left 0 c (h.own.noted t))

abbrev pub run_value_held : Held → ℕ → ℕ → Option Line → ℕ
run_value_held h t n None = 0
run_value_held h t n (Some line) = (action_held h t n line).value

abbrev pub answer_held : List Line → Held → Move → ℕ
answer_held ls h (Run t n) = run_value_held h t n (slice_get ls n)
answer_held ls h (Drain t c) = unwrap_or (oldest_to c (waiting_of h t)) 0

abbrev pub outcome_held : Rules → List Line → Held → Move → Result ℕ Refusal
outcome_held rules ls h m = answered (tested_held rules ls h m) (answer_held ls h m)

abbrev pub kept_by : Option Refusal → Held → Held → Held
kept_by None before after = after
kept_by (Some r) before after = before

abbrev pub after_offer_held : Rules → List Line → Held → Move → Held
after_offer_held rules ls h m = kept_by (tested_held rules ls h m) h (after_move_held ls h m)
