-- The greatest count, from the first instruction on. Assumes nothing.
use Rattle.std.proofs.Common.{◌≡◌, ℕ, ◌≤◌, max, List, [], ◌∷◌, arith}
use Rattle.std.specs.List.{fold}
use Rattle.admission.specs.declared.instruction.Instruction.{Instruction}
use Rattle.hazards.specs.Lengths.{nop_cycles, packet_length}

pub at_least_one : (xs : List Instruction) → 1 ≤ packet_length xs
at_least_one [] = omega arith
at_least_one (x ∷ xs) = let h = at_least_one xs in omega arith

fold_from : (n : ℕ) (xs : List Instruction) → 1 ≤ n → fold (λ m x. max m (nop_cycles x)) n xs ≡ max n (packet_length xs)
fold_from n [] h = omega arith
fold_from n (x ∷ xs) h = let e = fold_from (max n (nop_cycles x)) xs (omega arith) in omega arith

pub longest_fold : (xs : List Instruction) → fold (λ m x. max m (nop_cycles x)) 1 xs ≡ packet_length xs
longest_fold xs = let e = fold_from 1 xs (omega arith) in let h = at_least_one xs in omega arith
