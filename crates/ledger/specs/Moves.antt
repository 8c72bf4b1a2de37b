-- What a move does to the ledger.
-- Read                what a load finds: where its value is from, and the value
-- read                the thread's youngest waiting store to the cell, else the last that was drained into it, else what it holds
-- act                 the action of an instruction: its value and its access, by the five forms
-- ran                 where the thread stands, and its registers, once the action is done
-- after_run           the action is added; a store's joins the thread's waiting ones
-- after_drain         the thread's oldest waiting store to the cell goes to the end of that cell's list, and its value into the cell
-- after_move          either, by the move
-- ledger_of           what a list of moves comes to
use Rattle.std.specs.Prelude.{ℕ, cond, List, [], ◌∷◌, ◌++◌, length, Some, None, Option, ◌==◌}
use Rattle.std.specs.List.{slice_get}
use Rattle.program.specs.Operations.{result_of}
use Rattle.program.specs.declared.forms.Instruction.{Instruction}
use Rattle.program.specs.declared.forms.Instruction.TheVariants.{Load, Store, Fence, Compute, Assert}
use Rattle.program.specs.declared.lines.Line.{Line}
use Rattle.buffers.specs.Calls.{store}
use Rattle.ledger.specs.Actions.{Access, Action, Name, Source, from, initial, loads, name, none, stores}
use Rattle.ledger.specs.Ledgers.{Entry, Ledger, Local, action_at, operand, start, update}
use Rattle.ledger.specs.declared.moves.Move.{Move}
use Rattle.ledger.specs.declared.moves.Move.TheVariants.{Run, Drain}

pub record Read : Type 0 where
  pub source : Source
  pub value : ℕ

abbrev pub or_else : Option Entry → Option Entry → Option Entry
or_else (Some e) o = Some e
or_else None o = o

-- the youngest store to the cell among these
abbrev pub youngest : ℕ → List Entry → Option Entry
youngest c [] = None
youngest c (e ∷ es) = or_else (youngest c es) (cond (e.store.cell == c) (Some e) None)

-- the oldest
abbrev pub oldest : ℕ → List Entry → Option Entry
oldest c [] = None
oldest c (e ∷ es) = cond (e.store.cell == c) (Some e) (oldest c es)

-- the others
abbrev pub less_oldest : ℕ → List Entry → List Entry
less_oldest c [] = []
less_oldest c (e ∷ es) = cond (e.store.cell == c) es (e ∷ less_oldest c es)

abbrev pub last_of : List Name → Option Name
last_of [] = None
last_of (a ∷ []) = Some a
last_of (a ∷ b ∷ rest) = last_of (b ∷ rest)

-- what memory gives: the last drained store, else what the cell holds
abbrev pub in_memory : Ledger → ℕ → Option Name → Read
in_memory l c (Some a) = record { source = from a; value = (action_at l.actions a).value }
in_memory l c None = record { source = initial; value = l.cells c }

abbrev pub forwarded : ℕ → Option Entry → Read → Read
forwarded t (Some e) memory = record { source = from (name t e.position); value = e.store.value }
forwarded t None memory = memory

abbrev pub read : Ledger → ℕ → ℕ → Read
read l t c = forwarded t (youngest c (l.waiting t)) (in_memory l c (last_of (l.drained c)))

-- the cell that a load asks for; no other form asks
abbrev pub asked : (ℕ → ℕ) → Instruction → ℕ
asked rs (Load register address) = operand rs address
asked rs (Store address value) = 0
asked rs Fence = 0
asked rs (Compute register operation a b) = 0
asked rs (Assert condition) = 0

abbrev pub act : (ℕ → ℕ) → ℕ → Instruction → Read → Action
act rs n (Load register address) found = record { line = n; value = found.value; access = loads (operand rs address) found.source }
act rs n (Store address value) found = record { line = n; value = operand rs value; access = stores (operand rs address) }
act rs n Fence found = record { line = n; value = 0; access = none }
act rs n (Compute register operation a b) found = record { line = n; value = result_of operation (operand rs a) (operand rs b); access = none }
act rs n (Assert condition) found = record { line = n; value = operand rs condition; access = none }

-- a load and a compute write their value into their register
abbrev pub written : Instruction → ℕ → (ℕ → ℕ) → ℕ → ℕ
written (Load register address) v rs = update rs register v
written (Store address value) v rs = rs
written Fence v rs = rs
written (Compute register operation a b) v rs = update rs register v
written (Assert condition) v rs = rs

abbrev pub ran : Line → ℕ → Local → Local
ran line v here = record { label = line.next; registers = written line.instruction v here.registers }

-- what an action leaves waiting
abbrev pub issued : ℕ → ℕ → Access → List Entry
issued p v none = []
issued p v (stores c) = record { position = p; store = store c v } ∷ []
issued p v (loads c source) = []

abbrev pub added : Ledger → ℕ → Line → Action → Ledger
added l t line a = record {
  locals = update l.locals t (ran line a.value (l.locals t));
  cells = l.cells;
  actions = update l.actions t (l.actions t ++ a ∷ []);
  waiting = update l.waiting t (l.waiting t ++ issued (length (l.actions t)) a.value a.access);
  drained = l.drained;
}

abbrev pub action_of : Ledger → ℕ → ℕ → Line → Action
action_of l t n line = let rs = (l.locals t).registers in act rs n line.instruction (read l t (asked rs line.instruction))

-- where there is no such line, nothing
abbrev pub after_run : Ledger → ℕ → ℕ → Option Line → Ledger
after_run l t n None = l
after_run l t n (Some line) = added l t line (action_of l t n line)

abbrev pub after_drain : Ledger → ℕ → ℕ → Option Entry → Ledger
after_drain l t c None = l
after_drain l t c (Some e) = record {
  locals = l.locals;
  cells = update l.cells c e.store.value;
  actions = l.actions;
  waiting = update l.waiting t (less_oldest c (l.waiting t));
  drained = update l.drained c (l.drained c ++ name t e.position ∷ []);
}

abbrev pub after_move : List Line → Ledger → Move → Ledger
after_move ls l (Run t n) = after_run l t n (slice_get ls n)
after_move ls l (Drain t c) = after_drain l t c (oldest c (l.waiting t))

abbrev pub after_moves : List Line → Ledger → List Move → Ledger
after_moves ls l [] = l
after_moves ls l (m ∷ ms) = after_moves ls (after_move ls l m) ms

abbrev pub ledger_of : List Line → List Move → Ledger
ledger_of ls ms = after_moves ls start ms
