-- An order gives a run: all its entries, from the start to the whole trace.
use Rattle.std.proofs.Common.{◌≡◌, ℕ, zero, suc, ◌<◌, ◌≤◌, List, [], ◌∷◌, ◌++◌, length, get_or, sym, refl, ◌∙◌, subst, append_assoc, append-nil, arith}
use Rattle.std.specs.List.{Contains}
use Rattle.std.proofs.lemmas.List.Elements.{All-get_or}
use Rattle.std.proofs.lemmas.List.{take_all}
use Rattle.program.specs.declared.lines.Line.{Line}
use Rattle.buffers.specs.Kinds.{direct}
use Rattle.buffers.specs.Laws.{Rules}
use Rattle.ledger.specs.Actions.{Name, name}
use Rattle.ledger.specs.Edges.{SameTrace, trace_of}
use Rattle.ledger.specs.Ledgers.{Ledger, start}
use Rattle.ledger.specs.Moves.{after_move, after_moves, ledger_of}
use Rattle.ledger.specs.Orders.{InOrder, entry_moves, listed_moves}
use Rattle.ledger.specs.Runs.{Accepted, NothingWaits}
use Rattle.ledger.specs.Theorems.{OrderGivesRun}
use Rattle.ledger.specs.declared.moves.Move.{Move}
use Rattle.ledger.proofs.Draining.{sound_moves}
use Rattle.ledger.proofs.Growing.{Exists}
use Rattle.ledger.proofs.Replayed.{Part, placed_rank, there_from, there_true}
use Rattle.ledger.proofs.Sound.{Sound, StoreTo, sound_start}
use Rattle.ledger.proofs.Stepping.{entry_step}

-- Moves after moves.
pub after_append : (ls : List Line) (l : Ledger) (ms ns : List Move) → after_moves ls l (ms ++ ns) ≡ after_moves ls (after_moves ls l ms) ns
after_append ls l [] ns = refl
after_append ls l (m ∷ ms) ns = after_append ls (after_move ls l m) ms ns

pub accepted_append : (rules : Rules) (ls : List Line) (l : Ledger) (ms ns : List Move) → Accepted rules ls l ms → Accepted rules ls (after_moves ls l ms) ns → Accepted rules ls l (ms ++ ns)
accepted_append rules ls l [] ns first second = second
accepted_append rules ls l (m ∷ ms) ns first second = (first.0, accepted_append rules ls (after_move ls l m) ms ns first.1 second)

module _ (ls : List Line) (l : Ledger) (sound : Sound ls l) (empty : NothingWaits l) where
  -- At the start nothing is placed.
  part_start : Part ls l [] start
  part_start = record {
    sound = sound_start ls;
    empty = λ t. refl;
    actions = λ t. refl;
    drained = λ c. refl;
    is_placed = λ a there. absurd (omega (arith, there));
    there = λ a has. absurd (omega (arith, has.1));
    closed = λ a b has. absurd (omega (arith, has.1));
  }

  -- The rest of an order, from those that are placed on.
  part_order : (rest placed : List Name) (m : Ledger) → Part ls l placed m → InOrder (trace_of l) placed rest → Accepted direct ls m (listed_moves (trace_of l) rest) × Part ls l (placed ++ rest) (after_moves ls m (listed_moves (trace_of l) rest))
  part_order [] placed m part order = (tt, subst (λ names. Part ls l names m) (sym (append-nil placed)) part)
  part_order (b ∷ rest) placed m part order =
      let step = entry_step ls l sound empty placed m part b (there_from l b order.0) order.1 order.2 in
      let on = part_order rest (placed ++ b ∷ []) (after_moves ls m (entry_moves (trace_of l) b)) step.1 order.3 in (
        accepted_append direct ls m (entry_moves (trace_of l) b) (listed_moves (trace_of l) rest) step.0 on.0,
        subst (Part ls l (placed ++ b ∷ rest)) (sym (after_append ls m (entry_moves (trace_of l) b) (listed_moves (trace_of l) rest)))
            (subst (λ names. Part ls l names (after_moves ls (after_moves ls m (entry_moves (trace_of l) b)) (listed_moves (trace_of l) rest))) (append_assoc placed (b ∷ []) rest) on.1),
      )

  -- With every action placed, the trace is whole.
  part_whole : (names : List Name) (m : Ledger) → Part ls l names m → ((a : Name) → Exists l.actions a → Contains names a) → SameTrace (trace_of m) (trace_of l)
  part_whole names m part all = record {
    actions = λ t. part.actions t ∙ take_all (length (m.actions t)) (l.actions t) (all_actions t (length (l.actions t)) refl);
    drained = λ c. part.drained c ∙ take_all (length (m.drained c)) (l.drained c) (all_drained c (length (l.drained c)) refl);
  }
    where
      all_actions : (t n : ℕ) → length (l.actions t) ≡ n → length (l.actions t) ≤ length (m.actions t)
      all_actions t zero is = omega (arith, is)
      all_actions t (suc q) is = let last : q < length (m.actions t) = part.there (name t q) (all (name t q) (omega (arith, is))) in omega (arith, is, last)

      all_drained : (c n : ℕ) → length (l.drained c) ≡ n → length (l.drained c) ≤ length (m.drained c)
      all_drained c zero is = omega (arith, is)
      all_drained c (suc q) is =
          let within : q < length (l.drained c) = omega (arith, is) in
          let a = get_or (l.drained c) q (name 0 0) in
          let there = (All-get_or (StoreTo l.actions c) (l.drained c) q (name 0 0) within (sound.drained c)).exists in
          let last = placed_rank ls l sound empty names m part c q (name 0 0) within (all a there) in
          omega (arith, is, last)

pub order_gives_run : OrderGivesRun
order_gives_run rules lawful ls ms accepted empty names order =
    let l = ledger_of ls ms in
    let sound = sound_moves rules lawful ls ms start (sound_start ls) accepted in
    let whole = part_order ls l sound empty names [] start (part_start ls l sound empty) order.ordered in
    record {
      run = record { accepted = whole.0; drained = whole.1.empty };
      trace = part_whole ls l sound empty names (ledger_of ls (listed_moves (trace_of l) names)) whole.1 (λ a there. order.all a (there_true l a there));
    }
