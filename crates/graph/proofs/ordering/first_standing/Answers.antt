use Rattle.std.proofs.Common.{◌≡◌, ℕ, Bool, List, true, false, Option, MatchOption, get_or, replicate, sym, subst, refl, arith, rules}
use Rattle.std.proofs.lemmas.Iterator.{first_from_Range}
use Rattle.graph.specs.declared.ordering.Standing.{Standing}
use Rattle.graph.specs.declared.ordering.Standing.TheVariants.{Ready, Behind}
use Rattle.graph.proofs.Reaching.{all_false}
use Rattle.graph.proofs.Blocking.{stands_found}
use Rattle.graph.proofs.ordering.first_standing.Goals as goal

-- The lowest node with an edge to it is found.
pub returns-in-Some-clause-stands : goal.returns-in-Some-clause-stands
returns-in-Some-clause-stands g c =
    let joins : ℕ → ℕ → Bool = g.G.Graph.joins c.args.graph.now in
    let placed : List Bool = replicate (g.G.Graph.size c.args.graph.now) false in
    let x : Standing = Behind c.in-Some.first in
    stands_found joins _ placed c.args.node 0 c.nodes.result c.find.result x c.nodes.ensures (λ u l leads. absurd (omega arith))
    (first_from_Range _ _ _ c.find.result (λ b. (get_or placed b false ≡ false) × (joins b c.args.node ≡ true))
    (λ b. joins b c.args.node ≡ true → get_or placed b false ≡ true) c.find.ensures.ran (λ x q k. (all_false _ x, search rules)) (λ x q k. (search rules, λ leads. search rules)))
    (subst (λ (o : Option ℕ). MatchOption o (x ≡ Ready) (λ b. x ≡ Behind b)) (sym c.in-Some.is) refl)

-- No node has one.
pub returns-in-None-clause-stands : goal.returns-in-None-clause-stands
returns-in-None-clause-stands g c =
    let joins : ℕ → ℕ → Bool = g.G.Graph.joins c.args.graph.now in
    let placed : List Bool = replicate (g.G.Graph.size c.args.graph.now) false in
    let x : Standing = Ready in
    stands_found joins _ placed c.args.node 0 c.nodes.result c.find.result x c.nodes.ensures (λ u l leads. absurd (omega arith))
    (first_from_Range _ _ _ c.find.result (λ b. (get_or placed b false ≡ false) × (joins b c.args.node ≡ true))
    (λ b. joins b c.args.node ≡ true → get_or placed b false ≡ true) c.find.ensures.ran (λ x q k. (all_false _ x, search rules)) (λ x q k. (search rules, λ leads. search rules)))
    (subst (λ (o : Option ℕ). MatchOption o (x ≡ Ready) (λ b. x ≡ Behind b)) (sym c.in-None.is) refl)
