use Rattle.buffers.proofs.Order.{leave_in_order}
use Rattle.buffers.proofs.theorems.stores_to_a_cell_leave_in_order.Goals as goal

pub returns : goal.returns
returns c = leave_in_order
