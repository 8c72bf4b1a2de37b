-- What judging finds among the kept actions of a replay in step with the ledger is a true verdict.
use Rattle.std.proofs.Common.{◌≡◌, ℕ, ◌<◌, ◌≤◌, Bool, true, false, not, ltb, List, map, length, get_or, None, vec_items, MatchBool, sym, refl, ap, ◌∙◌, subst, arith}
use mathlib.Core.Path.{fun_ext}
use lib.ListN.{length-map}
use Rattle.std.proofs.lemmas.Bool.{le-ltb, lt-ltb}
use Rattle.refusal.specs.declared.Refusal.TheVariants.{StoreWaits, TooShort}
use Rattle.program.specs.declared.lines.Line.{Line}
use Rattle.graph.specs.Sorting.{Ordered, Ringed}
use Rattle.buffers.specs.Laws.{Lawful, Rules}
use Rattle.buffers.specs.Lists.{Lists, nothing_waits}
use Rattle.ledger.specs.Actions.{Name as Name', name}
use Rattle.ledger.specs.Edges.{Trace, trace_of}
use Rattle.ledger.specs.Judgements.{judge_tested}
use Rattle.ledger.specs.Moves.{ledger_of}
use Rattle.ledger.specs.Nodes.{node_joins, node_name, nodes}
use Rattle.ledger.specs.Orders.{listed_moves}
use Rattle.ledger.specs.Tests.{guard, how_many, lists_in}
use Rattle.ledger.specs.Theorems.{HasRun}
use Rattle.ledger.specs.declared.moves.Move.{Move}
use Rattle.ledger.proofs.Judging.{judged}
use Rattle.ledger.proofs.Timed.{nothing_waits_from}
use Rattle.present.specs.Data.{Held}
use Rattle.present.specs.Joins.{node_joined, nodes_in}
use Rattle.present.specs.Theorems.{InStep}
use Rattle.present.proofs.Offering.{sound_here, theorems}
use Rattle.replay.specs.Names.{name_of}
use Rattle.replay.specs.Performed.{JudgedAs, JudgedNow, Told}
use Rattle.replay.specs.Truth.{RightlyJudged, TrueVerdict, TrueWord}
use Rattle.replay.specs.Verdicts.{FoundIn}
use Rattle.replay.specs.declared.calls.Answer.{Answer}
use Rattle.replay.specs.declared.calls.Answer.TheVariants.{Moved, StartedOver, Judged, Refused}
use Rattle.replay.specs.declared.names.Name.{Name}
use Rattle.replay.specs.declared.verdicts.Verdict.{Verdict}
use Rattle.replay.specs.declared.verdicts.Word.{Word}
use Rattle.replay.specs.declared.verdicts.Word.TheVariants.{Sequential, Violation}

module _ (rules : Rules) (lawful : Lawful rules) (ls : List Line) (ms : List Move) (h : Held) (in_step : InStep rules ls ms h) where
  abbrev x : Trace
  x = trace_of (ledger_of ls ms)

  -- The kept actions have the numbers that the trace's actions have,
  same_nodes : nodes_in h.own ≡ nodes x
  same_nodes = theorems.nodes rules lawful ls ms h in_step

  -- and the same edges.
  same_edges : node_joined h.own ≡ node_joins x
  same_edges = fun_ext (λ u. fun_ext (theorems.edges rules lawful ls ms h in_step u))

  -- What is found of them is true of the trace.
  true_word : nothing_waits (lists_in (ledger_of ls ms)) ≡ true → (w : Word) (ns : List ℕ) → FoundIn h.own w ns → TrueWord w ls x (map (node_name x) ns)
  true_word nothing Sequential ns found =
      judged.order_is_true rules lawful ls ms in_step.accepted (nothing_waits_from ls (ledger_of ls ms) (sound_here rules lawful ls ms h in_step) nothing) ns
      (subst (λ n. Ordered (node_joins x) n ns) (ap length same_nodes) (subst (λ joins. Ordered joins (length (nodes_in h.own)) ns) same_edges found))
  true_word nothing Violation ns found = judged.ring_is_true rules lawful ls ms in_step.accepted ns (subst (λ joins. Ringed joins ns) same_edges found)

  -- `Sequential` is said only where there is a run,
  says_run : (w : Word) (names : List Name') → TrueWord w ls x names → w ≡ Sequential → HasRun ls x
  says_run Sequential names so is = (listed_moves x names, so.run)
  says_run Violation names so is = absurd (let z : ◌≡◌ {A = ℕ} 0 1 = cc in omega (arith, z))

  -- and wherever there is one.
  run_said : (w : Word) (names : List Name') → TrueWord w ls x names → HasRun ls x → w ≡ Sequential
  run_said Sequential names so run = refl
  run_said Violation names so run = absurd (so.no_run run)

  -- A verdict that is told of them is true.
  pub true_verdict : nothing_waits (lists_in (ledger_of ls ms)) ≡ true → (v : Verdict) (names : List Name) → Told h.own v names → TrueVerdict ls ms v (map name_of names)
  true_verdict nothing v names told =
      let listed : map name_of names ≡ map (node_name x) told.numbers = told.list ∙ (λ i. map (λ k. get_or (same_nodes i) k (name 8 0)) told.numbers) in
      let so : TrueWord v.word ls x (map name_of names) = subst (TrueWord v.word ls x) (sym listed) (true_word nothing v.word told.numbers told.found) in
      record {
        sequential = says_run v.word (map name_of names) so;
        only = run_said v.word (map name_of names) so;
        list = so;
        entries = told.entries ∙ sym (length-map told.numbers (node_name x)) ∙ sym (ap length listed);
        delayed = told.delayed ∙ theorems.delays rules ls ms h in_step;
      }

  -- Where nothing waits, a judgement is right by the number of actions.
  judged_now : nothing_waits (lists_in (ledger_of ls ms)) ≡ true → (places : ℕ) (a : Answer) → JudgedNow h.own places a → RightlyJudged (guard (ltb places (how_many (ledger_of ls ms))) TooShort None) ls ms a
  judged_now nothing places (Moved v) so = absurd so
  judged_now nothing places StartedOver so = absurd so
  judged_now nothing places (Judged v list) so =
      subst (λ b. RightlyJudged (guard b TooShort None) ls ms (Judged v list)) (sym (le-ltb places (how_many (ledger_of ls ms)) (subst (λ n. n ≤ places) (theorems.counts rules ls ms h in_step) so.0)))
      (true_verdict nothing v (vec_items list) so.1)
  judged_now nothing places (Refused r) so =
      subst (λ b. RightlyJudged (guard b TooShort None) ls ms (Refused r)) (sym (lt-ltb places (how_many (ledger_of ls ms)) (subst (λ n. places < n) (theorems.counts rules ls ms h in_step) so.0)))
      (ap Refused so.1)

  -- A judgement of such a replay is right.
  pub judged_right : (places : ℕ) (a : Answer) → JudgedAs h places a → RightlyJudged (judge_tested (ledger_of ls ms) places) ls ms a
  judged_right places a so = go (nothing_waits (lists_in (ledger_of ls ms))) refl (subst (λ (lists : Lists). MatchBool (nothing_waits lists) (JudgedNow h.own places a) (a ≡ Refused StoreWaits)) in_step.agrees.lists so)
    where
      go : (b : Bool) → nothing_waits (lists_in (ledger_of ls ms)) ≡ b → MatchBool b (JudgedNow h.own places a) (a ≡ Refused StoreWaits) → RightlyJudged (guard (not b) StoreWaits (guard (ltb places (how_many (ledger_of ls ms))) TooShort None)) ls ms a
      go true nothing here = judged_now nothing places a here
      go false some here = here
