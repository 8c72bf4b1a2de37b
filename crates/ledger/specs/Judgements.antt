-- judge_tested l places    the refusal of a judgement into a list of so many places, if it is refused: while a store waits, then where
--                          the list has fewer places than there are actions
use Rattle.std.specs.Prelude.{ℕ, not, None, Option, nat_lt}
use Rattle.refusal.specs.declared.Refusal.{Refusal}
use Rattle.refusal.specs.declared.Refusal.TheVariants.{StoreWaits, TooShort}
use Rattle.buffers.specs.Lists.{nothing_waits}
use Rattle.ledger.specs.Ledgers.{Ledger}
use Rattle.ledger.specs.Tests.{guard, how_many, lists_in}

abbrev pub judge_tested : Ledger → ℕ → Option Refusal
judge_tested l places = guard (not (nothing_waits (lists_in l))) StoreWaits (guard (nat_lt places (how_many l)) TooShort None)
