-- Rules          what the waiting lists let happen: whether a thread is free to step, and whether a drain is free
-- Lawful r       a step is free only for one of the eight threads, and a drain only where such a store waits
use Rattle.std.specs.Prelude.{◌≡◌, ℕ, ◌<◌, Bool, true}
use Rattle.buffers.specs.Lists.{Lists, list_of, waits_to}

pub record Rules : Type 0 where
  pub steps : Lists → ℕ → Bool
  pub drains : Lists → ℕ → ℕ → Bool

pub record Lawful (r : Rules) : Type 0 where
  pub step_in_range : (ls : Lists) (t : ℕ) → r.steps ls t ≡ true → t < 8
  pub drain_waits : (ls : Lists) (t c : ℕ) → r.drains ls t c ≡ true → waits_to c (list_of ls t) ≡ true
