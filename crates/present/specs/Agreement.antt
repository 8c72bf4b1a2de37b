-- When what a replay holds agrees with a ledger.
-- entries           the stores that kept actions leave waiting, as a ledger has them, positions counted from i
-- overwrote         what a drained store overwrote: the store before it in its cell's list, or what was there before the list
-- Agrees l h        the replay holds what the ledger says: the same labels, registers and actions; memory gives for each cell what the
--                   ledger's does; the actions that are left waiting, and the lists of the buffer, are the ledger's waiting stores;
--                   and each drained store knows what it overwrote
-- Tracks ls ms h    the threads that are kept as delaying are those that delayed
use Rattle.std.specs.Prelude.{◌≡◌, ℕ, ◌+◌, ◌<◌, cond, List, [], ◌∷◌, ◌++◌, length, Some, None, Option}
use Rattle.program.specs.declared.lines.Line.{Line}
use Rattle.ledger.specs.Actions.{Name, Source, from, initial, same, stores}
use Rattle.ledger.specs.Delays.{delays}
use Rattle.ledger.specs.Ledgers.{Entry, Ledger, start}
use Rattle.ledger.specs.Moves.{in_memory, issued, last_of}
use Rattle.ledger.specs.Tests.{lists_in}
use Rattle.ledger.specs.declared.moves.Move.{Move}
use Rattle.present.specs.Data.{Held, Noted, actions_in, noted_at}

abbrev pub left_of : ℕ → Noted → Option Source → List Entry
left_of i x None = issued i x.action.value x.action.access
left_of i x (Some s) = []

abbrev pub entries : ℕ → List Noted → List Entry
entries i [] = []
entries i (x ∷ xs) = left_of i x x.over ++ entries (i + 1) xs

abbrev pub overwrote : Source → List Name → Name → Option Source
overwrote before [] a = None
overwrote before (x ∷ names) a = cond (same x a) (Some before) (overwrote (from x) names a)

pub record Agrees (l : Ledger) (h : Held) : Type 0 where
  pub locals : (t : ℕ) → h.own.locals t ≡ l.locals t
  pub memory : (c : ℕ) → h.own.memory c ≡ in_memory l c (last_of (l.drained c))
  pub actions : (t : ℕ) → actions_in h.own t ≡ l.actions t
  pub waiting : (t : ℕ) → entries 0 (h.own.noted t) ≡ l.waiting t
  pub over : (a : Name) (c : ℕ) → a.position < length (h.own.noted a.thread) → (noted_at h.own a).action.access ≡ stores c → (noted_at h.own a).over ≡ overwrote initial (l.drained c) a
  pub lists : h.lists ≡ lists_in l

abbrev pub Tracks : List Line → List Move → Held → Type 0
Tracks ls ms h = (t : ℕ) → h.own.delayed t ≡ delays ls start t ms
