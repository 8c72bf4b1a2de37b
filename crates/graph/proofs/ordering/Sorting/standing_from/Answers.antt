use Rattle.std.proofs.Common.{◌≡◌, ℕ, Bool, List, true, false, Option, MatchOption, get_or, sym, subst, refl, rules}
use Rattle.std.proofs.lemmas.Iterator.{first_from_Range, serves_from_Range}
use Rattle.graph.specs.declared.ordering.Standing.{Standing}
use Rattle.graph.specs.declared.ordering.Standing.TheVariants.{Ready, Behind}
use Rattle.graph.specs.Placing.{marks}
use Rattle.graph.proofs.Blocking.{stands_found}
use Rattle.graph.proofs.ordering.Sorting.standing_from.Goals as goal

-- The first of the nodes from `from` on that blocks is found.
pub returns-in-Some-clause-stands : goal.returns-in-Some-clause-stands
returns-in-Some-clause-stands g c =
    let joins : ℕ → ℕ → Bool = g.G.Graph.joins c.args.graph.now in
    let placed : List Bool = marks c.args.self.now.standings.items in
    let x : Standing = Behind c.in-Some.blocker in
    stands_found joins _ placed c.args.node c.args.from c.nodes.result c.find.result x c.nodes.ensures c.requires.passed
    (first_from_Range _ _ _ c.find.result (λ b. (get_or placed b false ≡ false) × (joins b c.args.node ≡ true))
    (λ b. joins b c.args.node ≡ true → get_or placed b false ≡ true) c.find.ensures.ran (λ x q k. search rules) (λ x q k. (search rules, λ leads. search rules)))
    (subst (λ (o : Option ℕ). MatchOption o (x ≡ Ready) (λ b. x ≡ Behind b)) (sym c.in-Some.is) refl)

-- None of them blocks.
pub returns-in-None-clause-stands : goal.returns-in-None-clause-stands
returns-in-None-clause-stands g c =
    let joins : ℕ → ℕ → Bool = g.G.Graph.joins c.args.graph.now in
    let placed : List Bool = marks c.args.self.now.standings.items in
    let x : Standing = Ready in
    stands_found joins _ placed c.args.node c.args.from c.nodes.result c.find.result x c.nodes.ensures c.requires.passed
    (first_from_Range _ _ _ c.find.result (λ b. (get_or placed b false ≡ false) × (joins b c.args.node ≡ true))
    (λ b. joins b c.args.node ≡ true → get_or placed b false ≡ true) c.find.ensures.ran (λ x q k. search rules) (λ x q k. (search rules, λ leads. search rules)))
    (subst (λ (o : Option ℕ). MatchOption o (x ≡ Ready) (λ b. x ≡ Behind b)) (sym c.in-None.is) refl)

-- The nodes that are asked about are nodes.
pub find-requires-clause-callable : goal.find-requires-clause-callable
find-requires-clause-callable g c = serves_from_Range (λ x q k. search rules) (λ x h l. search (rules, c.requires.sized))
