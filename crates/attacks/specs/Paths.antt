-- The edges of the graph that is searched. Only private calls speak of it.
-- goes_on ls m n    the line n follows the line m, and is no fence
use Rattle.std.specs.Prelude.{ℕ, Bool, not, ◌&&◌, List}
use Rattle.program.specs.declared.lines.Line.{Line}
use Rattle.attacks.specs.Attacks.{follows, has, is_fence}

abbrev pub goes_on : List Line → ℕ → ℕ → Bool
goes_on ls m n = follows ls m n && not (has is_fence ls n)
