use Rattle.std.proofs.Common.{length, refl, arith, rules}
use Rattle.std.proofs.lemmas.List.{length_push}
use Rattle.std.proofs.lemmas.Iterator.{YieldsList-from_map, YieldsList-from_slice}
use Rattle.std.proofs.lemmas.Iterator.Adapters.{YieldsList-from_flat_map}
use Rattle.std.proofs.lemmas.Iterator.Consumers.{YieldsList-at, YieldsList-from_enumerate, YieldsList-from_filter, YieldsList-turn, YieldsList-end}
use Rattle.attacks.specs.Tables.{pair, row_pairs, table_pairs}
use Rattle.attacks.proofs.Writing.{has_marks, written_all, written_more, yields_table}
use Rattle.attacks.proofs.listing.write_pairs.Goals as goal

pub bounds-list-at : goal.bounds-list-at
bounds-list-at c = omega (
  arith,
  (written_more (table_pairs c.args.table.now) c.args.list.now c.loop-at.list (length c.loop-at.yielded) c.loop-at.invariant _ _
      (YieldsList-turn (YieldsList-from_enumerate (yields_table c.args.table.now (YieldsList-from_flat_map _ _ _ (λ p. p) (λ r. row_pairs r.0 r.1) _
      (λ x u q k. (search rules, λ j is. YieldsList-at is (YieldsList-from_map _ (λ p. pair x.0 p.0) (YieldsList-from_filter _ (λ p. p.1) (YieldsList-from_enumerate (YieldsList-from_slice x.1.now (search rules)) (search rules)) refl (λ y b r e. search rules)) refl (λ y b r e. search rules))))
      (YieldsList-from_filter _ has_marks (YieldsList-from_enumerate (YieldsList-from_slice c.args.table.now (cc)) (cc)) (cc) (λ x b q k. search rules)) (cc) (cc) (cc) (cc))) (cc)) c.loop-at.yielded _ c.loop-at.yielded_by _ _ _ c.in-Some.is c.next.ensures.steps)
      (omega arith) (length_push c.loop-at.yielded (c.in-Some.at, c.in-Some.pair))).0,
)

pub loop-at-preserved : goal.loop-at-preserved
loop-at-preserved c =
    (written_more (table_pairs c.args.table.now) c.args.list.now c.loop-at.list (length c.loop-at.yielded) c.loop-at.invariant _ _
    (YieldsList-turn (YieldsList-from_enumerate (yields_table c.args.table.now (YieldsList-from_flat_map _ _ _ (λ p. p) (λ r. row_pairs r.0 r.1) _
    (λ x u q k. (search rules, λ j is. YieldsList-at is (YieldsList-from_map _ (λ p. pair x.0 p.0) (YieldsList-from_filter _ (λ p. p.1) (YieldsList-from_enumerate (YieldsList-from_slice x.1.now (search rules)) (search rules)) refl (λ y b r e. search rules)) refl (λ y b r e. search rules))))
    (YieldsList-from_filter _ has_marks (YieldsList-from_enumerate (YieldsList-from_slice c.args.table.now (cc)) (cc)) (cc) (λ x b q k. search rules)) (cc) (cc) (cc) (cc))) (cc)) c.loop-at.yielded _ c.loop-at.yielded_by _ _ _ c.in-Some.is c.next.ensures.steps)
    (omega arith) (length_push c.loop-at.yielded (c.in-Some.at, c.in-Some.pair))).1

pub returns : goal.returns
returns c =
    written_all (table_pairs c.args.table.now) c.args.list.now c.loop-at.list (length c.loop-at.yielded) c.loop-at.invariant
    (YieldsList-end (YieldsList-from_enumerate (yields_table c.args.table.now (YieldsList-from_flat_map _ _ _ (λ p. p) (λ r. row_pairs r.0 r.1) _
    (λ x u q k. (search rules, λ j is. YieldsList-at is (YieldsList-from_map _ (λ p. pair x.0 p.0) (YieldsList-from_filter _ (λ p. p.1) (YieldsList-from_enumerate (YieldsList-from_slice x.1.now (search rules)) (search rules)) refl (λ y b r e. search rules)) refl (λ y b r e. search rules))))
    (YieldsList-from_filter _ has_marks (YieldsList-from_enumerate (YieldsList-from_slice c.args.table.now (cc)) (cc)) (cc) (λ x b q k. search rules)) (cc) (cc) (cc) (cc))) (cc)) c.loop-at.yielded _ c.loop-at.yielded_by _ _ c.in-None.is c.next.ensures.steps).1

pub offset_bounds-list-at : goal.offset_bounds-list-at
offset_bounds-list-at c = search (rules, bounds-list-at c)
