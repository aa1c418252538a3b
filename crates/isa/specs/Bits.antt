-- Bits of numbers.
use Rattle.std.specs.Prelude.{ℕ, ◌/◌, ◌%◌, ◌^◌, Bool, ◌==◌}

-- bit k of a number, 0 or 1
abbrev pub bit : ℕ → ℕ → ℕ
bit n k = n / 2 ^ k % 2

-- bit k of a number is 1
abbrev pub is_set : ℕ → ℕ → Bool
is_set n k = bit n k == 1
