-- What an offered move is answered, and what a list of offered moves comes to.
-- answer        the value loaded, stored, drained, computed or asserted, and 0 for a fence
-- outcome       the answer, or the refusal
-- after_offer   what the move comes to; nothing, where it is refused
-- outcomes      the outcomes of a list of offered moves, each from where the accepted ones before it lead
-- after_offers  where they all lead
use Rattle.std.specs.Prelude.{ℕ, List, [], ◌∷◌, Some, None, Ok, Err, Option, Result}
use Rattle.std.specs.List.{slice_get}
use Rattle.refusal.specs.declared.Refusal.{Refusal}
use Rattle.program.specs.declared.lines.Line.{Line}
use Rattle.buffers.specs.Laws.{Rules}
use Rattle.ledger.specs.Ledgers.{Entry, Ledger}
use Rattle.ledger.specs.Moves.{action_of, after_move, oldest}
use Rattle.ledger.specs.Tests.{tested}
use Rattle.ledger.specs.declared.moves.Move.{Move}
use Rattle.ledger.specs.declared.moves.Move.TheVariants.{Run, Drain}

abbrev pub run_value : Ledger → ℕ → ℕ → Option Line → ℕ
run_value l t n None = 0
run_value l t n (Some line) = (action_of l t n line).value

abbrev pub drain_value : Option Entry → ℕ
drain_value None = 0
drain_value (Some e) = e.store.value

abbrev pub answer : List Line → Ledger → Move → ℕ
answer ls l (Run t n) = run_value l t n (slice_get ls n)
answer ls l (Drain t c) = drain_value (oldest c (l.waiting t))

abbrev pub answered : Option Refusal → ℕ → Result ℕ Refusal
answered None v = Ok v
answered (Some r) v = Err r

abbrev pub outcome : Rules → List Line → Ledger → Move → Result ℕ Refusal
outcome rules ls l m = answered (tested rules ls l m) (answer ls l m)

abbrev pub moved_by : Option Refusal → Ledger → Ledger → Ledger
moved_by None before after = after
moved_by (Some r) before after = before

abbrev pub after_offer : Rules → List Line → Ledger → Move → Ledger
after_offer rules ls l m = moved_by (tested rules ls l m) l (after_move ls l m)

abbrev pub outcomes : Rules → List Line → Ledger → List Move → List (Result ℕ Refusal)
outcomes rules ls l [] = []
outcomes rules ls l (m ∷ ms) = outcome rules ls l m ∷ outcomes rules ls (after_offer rules ls l m) ms

abbrev pub after_offers : Rules → List Line → Ledger → List Move → Ledger
after_offers rules ls l [] = l
after_offers rules ls l (m ∷ ms) = after_offers rules ls (after_offer rules ls l m) ms
