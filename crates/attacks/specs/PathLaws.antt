-- The code paths of a program keep the laws of a graph: a program has few lines, and one line follows another only where
-- both are there. It stands here and not in proofs/ since the graph's ghost member cites it.
use Rattle.std.specs.Prelude.{◌≡◌, true, not, length, Some, None, Option, refl}
use Rattle.std.proofs.Common.{arith, sym}
use Rattle.std.specs.List.{slice_get}
use Rattle.std.proofs.lemmas.Bool.{true≢false, and_parts}
use Rattle.std.proofs.lemmas.Option.{slice_get_within}
use Rattle.graph.specs.Laws.{Laws}
use Rattle.program.specs.Programs.{lines_of}
use Rattle.program.specs.declared.lines.Line.{Line}
use Rattle.attacks.specs.declared.paths.CodePaths.{CodePaths}
use Rattle.attacks.specs.Attacks.{behind, follows, has, is_fence}
use Rattle.attacks.specs.Paths.{goes_on}

-- Of two lines, one behind the other, both are there.
both_there : (x y : Option Line) → behind x y ≡ true → (a : Line) × (b : Line) × (x ≡ Some a) × (y ≡ Some b)
both_there None y so = absurd (true≢false (sym so))
both_there (Some x) None so = absurd (true≢false (sym so))
both_there (Some x) (Some y) so = (x, y, refl, refl)

pub paths_laws : Laws {G = CodePaths} (λ g. length (lines_of g.program.now)) (λ g m n. goes_on (lines_of g.program.now) m n)
paths_laws = record {
  few = λ g. omega (arith, g.program.now.few, g.program.now.lines.ok.0);
  inside = λ g m n joined.
      let ls = lines_of g.program.now in
      let there = both_there (slice_get ls m) (slice_get ls n) (and_parts (follows ls m n) (not (has is_fence ls n)) joined).0 in
      (slice_get_within ls m there.0 there.2, slice_get_within ls n there.1 there.3);
}
