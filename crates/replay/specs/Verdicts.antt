-- What judging answers and writes, over what a replay holds now.
-- FoundIn own w ns      the word w is right of the kept actions by these numbers of theirs: `Sequential` by an order of all, at each place
--                       the lowest that could come next, `Violation` by a ring, the lowest first
-- ListedIn              the list begins with the names of such numbers, and the rest of it is as before
-- JudgedIn              what judging answers where nothing waits in the buffer
-- JudgedHeld            what judging answers: 14 while a store waits in the buffer, then 15 where the list has fewer places than there are
--                       actions; a refusal leaves the list as it was
use Rattle.std.specs.Prelude.{◌≡◌, ℕ, ◌<◌, ◌≤◌, List, map, length, take, drop, Ok, Err, MatchBool, Result}
use Rattle.refusal.specs.declared.Refusal.{Refusal}
use Rattle.refusal.specs.declared.Refusal.TheVariants.{StoreWaits, TooShort}
use Rattle.graph.specs.Sorting.{Ordered, Ringed}
use Rattle.buffers.specs.Lists.{nothing_waits}
use Rattle.present.specs.Data.{Held, Present, how_many_in}
use Rattle.present.specs.Joins.{delaying_in, node_joined, node_named, nodes_in}
use Rattle.replay.specs.Names.{name_of}
use Rattle.replay.specs.declared.names.Name.{Name}
use Rattle.replay.specs.declared.verdicts.Verdict.{Verdict}
use Rattle.replay.specs.declared.verdicts.Word.{Word}
use Rattle.replay.specs.declared.verdicts.Word.TheVariants.{Sequential, Violation}

abbrev pub FoundIn : Present → Word → List ℕ → Type 0
FoundIn own Sequential ns = Ordered (node_joined own) (length (nodes_in own)) ns
FoundIn own Violation ns = Ringed (node_joined own) ns

pub record ListedIn (own : Present) (before : List Name) (v : Verdict) (after : List Name) : Type 0 where
  pub numbers : List ℕ
  pub found : FoundIn own v.word numbers
  pub entries : v.entries ≡ length numbers
  pub within : v.entries ≤ length after
  pub list : map name_of (take v.entries after) ≡ map (node_named own) numbers
  pub later : drop v.entries after ≡ drop v.entries before
  pub delayed : v.delayed ≡ delaying_in own

abbrev pub JudgedIn : Present → List Name → Result Verdict Refusal → List Name → Type 0
JudgedIn own before (Ok v) after = (how_many_in own ≤ length before) × ListedIn own before v after
JudgedIn own before (Err r) after = (length before < how_many_in own) × (r ≡ TooShort) × (after ≡ before)

abbrev pub JudgedHeld : Held → List Name → Result Verdict Refusal → List Name → Type 0
JudgedHeld h before r after = MatchBool (nothing_waits h.lists) (JudgedIn h.own before r after) ((r ≡ Err StoreWaits) × (after ≡ before))
