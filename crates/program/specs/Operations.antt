-- result_of o a b    what the operation o makes of the 32-bit numbers a and b
-- numbered n         the operation of a number
-- operation_of n     that operation, or the number that names none; known n o, by what it is
use Rattle.std.specs.Prelude.{ℕ, zero, suc, ◌+◌, ◌-◌, ◌%◌, ◌^◌, cond, Some, None, Ok, Err, Option, Result, ◌==◌, bit_and, bit_xor, nat_lt}
use Rattle.program.specs.declared.operations.Operation.{Operation}
use Rattle.program.specs.declared.operations.Operation.TheVariants.{Sum, Difference, And, ExclusiveOr, Equal, Less}
use Rattle.program.specs.declared.operations.UnknownOperation.{UnknownOperation}

abbrev pub result_of : Operation → ℕ → ℕ → ℕ
result_of Sum a b = (a + b) % 2 ^ 32
result_of Difference a b = (a + (2 ^ 32 - b)) % 2 ^ 32
result_of And a b = bit_and a b
result_of ExclusiveOr a b = bit_xor a b
result_of Equal a b = cond (a == b) 1 0
result_of Less a b = cond (nat_lt a b) 1 0

abbrev pub numbered : ℕ → Option Operation
numbered zero = Some Sum
numbered (suc zero) = Some Difference
numbered (suc (suc zero)) = Some And
numbered (suc (suc (suc zero))) = Some ExclusiveOr
numbered (suc (suc (suc (suc zero)))) = Some Equal
numbered (suc (suc (suc (suc (suc zero))))) = Some Less
numbered (suc (suc (suc (suc (suc (suc n)))))) = None

abbrev pub known : ℕ → Option Operation → Result Operation UnknownOperation
known n None = Err (record { number = n })
known n (Some o) = Ok o

abbrev pub operation_of : ℕ → Result Operation UnknownOperation
operation_of n = known n (numbered n)
