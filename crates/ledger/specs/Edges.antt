-- The trace of a run, and the happens-before edges between its actions.
-- Trace             each thread's actions, which hold the sources of its loads, and each cell's stores in the order drained
-- is_action         there is an action of that name
-- next_in names a b    b stands next after a in the list
-- first_in names a     a stands first in it
-- edge              one action happens directly before another: by program order, store order, reads-from or from-reads
use Rattle.std.specs.Prelude.{◌≡◌, ℕ, ◌+◌, Bool, false, ◌&&◌, ◌||◌, List, [], ◌∷◌, length, ◌==◌, nat_lt}
use Rattle.ledger.specs.Actions.{Access, Action, Name, Source, from, initial, loads, none, same, stores}
use Rattle.ledger.specs.Ledgers.{Ledger, action_at}

pub record Trace : Type 0 where
  pub actions : ℕ → List Action
  pub drained : ℕ → List Name

abbrev pub trace_of : Ledger → Trace
trace_of l = record { actions = l.actions; drained = l.drained }

-- the same actions in every thread, and the same stores in every cell's list
pub record SameTrace (x y : Trace) : Type 0 where
  pub actions : (t : ℕ) → x.actions t ≡ y.actions t
  pub drained : (c : ℕ) → x.drained c ≡ y.drained c

abbrev pub is_action : Trace → Name → Bool
is_action x a = nat_lt a.position (length (x.actions a.thread))

abbrev pub next_in : List Name → Name → Name → Bool
next_in [] a b = false
next_in (x ∷ []) a b = false
next_in (x ∷ y ∷ names) a b = (same x a && same y b) || next_in (y ∷ names) a b

abbrev pub first_in : List Name → Name → Bool
first_in [] a = false
first_in (x ∷ names) a = same x a

-- the second is the next of the same thread
abbrev pub program_order : Name → Name → Bool
program_order a b = a.thread == b.thread && a.position + 1 == b.position

-- the first is a store, and the second is the next store in the same cell's list
abbrev pub store_order : Trace → Name → Access → Name → Bool
store_order x a none b = false
store_order x a (stores c) b = next_in (x.drained c) a b
store_order x a (loads c source) b = false

-- the first is the source of the second, which is a load
abbrev pub is_source : Name → Source → Bool
is_source a initial = false
is_source a (from s) = same s a

abbrev pub reads_from : Name → Access → Bool
reads_from a none = false
reads_from a (stores c) = false
reads_from a (loads c source) = is_source a source

-- the first is a load, and the second is the store next after its source in that cell's list, or the cell's first
abbrev pub after_source : List Name → Source → Name → Bool
after_source names initial b = first_in names b
after_source names (from s) b = next_in names s b

abbrev pub from_reads : Trace → Access → Name → Bool
from_reads x none b = false
from_reads x (stores c) b = false
from_reads x (loads c source) b = after_source (x.drained c) source b

abbrev pub edge : Trace → Name → Name → Bool
edge x a b =
    (is_action x a && is_action x b)
    && (program_order a b
    || (store_order x a (action_at x.actions a).access b
    || (reads_from a (action_at x.actions b).access
    || from_reads x (action_at x.actions a).access b)))
