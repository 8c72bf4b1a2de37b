-- The ledger of a run: what the accepted moves come to. It is fed a program's lines and moves, and never an answer.
-- update f k x        f, but x at k
-- Local               where a thread stands, and its registers
-- Entry               a store that waits: the position of its action among the thread's, and the store
-- Ledger              what each thread is at, what each cell holds, each thread's actions and waiting stores (oldest first), and
--                     each cell's drained stores, in the order drained
-- start               all labels, registers and cells 0, and nothing else
use Rattle.std.specs.Prelude.{ℕ, cond, List, [], ◌==◌, slice_index_or}
use Rattle.program.specs.declared.forms.Operand.{Operand}
use Rattle.program.specs.declared.forms.Operand.TheVariants.{Register, Constant}
use Rattle.buffers.specs.declared.store.Store.{Store}
use Rattle.ledger.specs.Actions.{Action, Name, none}

abbrev pub update : {X : Type 0} → (ℕ → X) → ℕ → X → ℕ → X
update f k x n = cond (n == k) x (f n)

pub record Local : Type 0 where
  pub label : ℕ
  pub registers : ℕ → ℕ

pub record Entry : Type 0 where
  pub position : ℕ
  pub store : Store

pub record Ledger : Type 0 where
  pub locals : ℕ → Local
  pub cells : ℕ → ℕ
  pub actions : ℕ → List Action
  pub waiting : ℕ → List Entry
  pub drained : ℕ → List Name

abbrev pub start_local : Local
start_local = record { label = 0; registers = λ r. 0 }

abbrev pub start : Ledger
start = record {
  locals = λ t. start_local;
  cells = λ c. 0;
  actions = λ t. [];
  waiting = λ t. [];
  drained = λ c. [];
}

-- what stands in a list of actions past its end
abbrev pub no_action : Action
no_action = record { line = 0; value = 0; access = none }

-- the action of that name
abbrev pub action_at : (ℕ → List Action) → Name → Action
action_at actions a = slice_index_or (actions a.thread) a.position no_action

-- what an operand comes to
abbrev pub operand : (ℕ → ℕ) → Operand → ℕ
operand registers (Register r) = registers r
operand registers (Constant c) = c
