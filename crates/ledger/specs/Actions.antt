-- Actions: what the accepted runs of instructions leave behind.
-- Name      an action, by its thread and its position among that thread's actions, counted from 0
-- Source    where a load has its value from: a store's action, or what the cell held at the start
-- Access    what an action does to memory: nothing, a store to a cell, or a load from a cell
-- Action    the number of the instruction, the value loaded, stored, computed or asserted (0 for a fence), and the access
use Rattle.std.specs.Prelude.{ℕ, Bool, ◌&&◌, ◌==◌}

pub record Name : Type 0 where
  pub thread : ℕ
  pub position : ℕ

abbrev pub name : ℕ → ℕ → Name
name t p = record { thread = t; position = p }

-- two names name one action
abbrev pub same : Name → Name → Bool
same a b = a.thread == b.thread && a.position == b.position

pub data Source : Type 0 where
  initial : Source
  from : Name → Source

pub data Access : Type 0 where
  none : Access
  stores : (cell : ℕ) → Access
  loads : (cell : ℕ) → Source → Access

pub record Action : Type 0 where
  pub line : ℕ
  pub value : ℕ
  pub access : Access
