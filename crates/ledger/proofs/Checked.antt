-- Orders that are checked by computing.
use Rattle.std.proofs.Common.{◌≡◌, Bool, true, false, not, ◌&&◌, ◌||◌, List, [], ◌∷◌, ◌++◌, get_or, refl, sym, ⊎_elim}
use Rattle.std.specs.List.{Contains, list_all, list_any}
use Rattle.std.proofs.lemmas.List.Elements.{All-contains}
use Rattle.std.proofs.lemmas.List.Folds.{list_any_at}
use Rattle.std.proofs.lemmas.List.Recursion.{and_at}
use Rattle.std.proofs.lemmas.Map.Views.{Contains-from_any}
use Rattle.std.proofs.lemmas.Bool.{and_parts, both_ways, not-true, or_cases}
use Rattle.program.specs.declared.lines.Line.{Line}
use Rattle.ledger.specs.Actions.{Name, same}
use Rattle.ledger.specs.Edges.{Trace, edge, is_action, trace_of}
use Rattle.ledger.specs.Ledgers.{Ledger}
use Rattle.ledger.specs.Orders.{InOrder, Lacks, Order, Ready}
use Rattle.ledger.specs.Tests.{threads}
use Rattle.ledger.proofs.Exact.{all_of, in_names}
use Rattle.ledger.proofs.Growing.{same_self, same_true}
use Rattle.ledger.proofs.Sound.{Sound}

abbrev pub member : Name → List Name → Bool
member a names = list_any (same a) names

pub lacks_member : (a : Name) (names : List Name) → member a names ≡ false → Lacks names a
lacks_member a names so = λ k d within is. both_ways (member a names) so (list_any_at (same a) names k d within (same_self a (get_or names k d) (sym is)))

-- Where every one of the names passes the test, each does.
every_in : (test : Name → Bool) (names : List Name) → list_all test names ≡ true → (a : Name) → Contains names a → test a ≡ true
every_in test names so a there = All-contains (λ b. test b ≡ true) names a (λ k d within. and_at (list_all test) test refl (λ b bs. refl) names k d within so) there

module _ (x : Trace) (all : List Name) (whole : (a : Name) → is_action x a ≡ true → Contains all a) where
  abbrev pub in_order : List Name → List Name → Bool
  in_order placed [] = true
  in_order placed (b ∷ rest) = is_action x b && (not (member b placed) && (list_all (λ a. not (edge x a b) || member a placed) all && in_order (placed ++ b ∷ []) rest))

  checked : (placed rest : List Name) → in_order placed rest ≡ true → InOrder x placed rest
  checked placed [] so = tt
  checked placed (b ∷ rest) so =
      let first = and_parts (is_action x b) _ so in
      let second = and_parts (not (member b placed)) _ first.1 in
      let third = and_parts (list_all (λ a. not (edge x a b) || member a placed) all) _ second.1 in
      (first.0, lacks_member b placed (not-true (member b placed) second.0), ready third.0, checked (placed ++ b ∷ []) rest third.1)
    where
      ready : list_all (λ a. not (edge x a b) || member a placed) all ≡ true → Ready x placed b
      ready so' a joined =
          let there = whole a (and_parts (is_action x a) (is_action x b) (and_parts (is_action x a && is_action x b) _ joined).0).0 in
          ⊎_elim (λ none. absurd (both_ways (edge x a b) (not-true (edge x a b) none) joined)) (λ in_placed. Contains-from_any same_true a placed in_placed) (or_cases (not (edge x a b)) (member a placed) (every_in (λ d. not (edge x d b) || member d placed) all so' a there))

-- A list that passes the check is an order of the ledger's trace.
pub checked_order : (ls : List Line) (l : Ledger) (sound : Sound ls l) (names : List Name) → in_order (trace_of l) (all_of l.actions threads) (in_names ls l sound) [] names ≡ true → list_all (λ a. member a names) (all_of l.actions threads) ≡ true → Order (trace_of l) names
checked_order ls l sound names so all = record {
  ordered = checked (trace_of l) (all_of l.actions threads) (in_names ls l sound) [] names so;
  all = λ a action. Contains-from_any same_true a names (every_in (λ d. member d names) (all_of l.actions threads) all a (in_names ls l sound a action));
}
