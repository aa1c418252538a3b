-- The proofs that each kind of clash is mutual. Ghost members cite them, so they stand here; a reader need not.
use Rattle.std.proofs.Common.{sym, inl, inr, ⊎_elim}
use Rattle.admission.specs.declared.instruction.Instruction.{Instruction}
use Rattle.claims.specs.declared.port.PortClaim.{PortClaim}
use Rattle.claims.specs.declared.write.WriteClaim.{WriteClaim}
use Rattle.claims.specs.Landings.{SamePort, DoubleWrite}
use Rattle.claims.specs.Kinds.{SameUnit, TwoLongNops, SameDataPath, NonalignedPair, CrossOperands}

pub same_unit_mutual : (a b : Instruction) → SameUnit a b → SameUnit b a
same_unit_mutual a b (u, p, q) = (u, q, p)

pub two_long_nops_mutual : (a b : Instruction) → TwoLongNops a b → TwoLongNops b a
two_long_nops_mutual a b (p, q) = (q, p)

pub same_data_path_mutual : (a b : Instruction) → SameDataPath a b → SameDataPath b a
same_data_path_mutual a b (p, q, e) = (q, p, sym e)

pub nonaligned_pair_mutual : (a b : Instruction) → NonalignedPair a b → NonalignedPair b a
nonaligned_pair_mutual a b (p, q, e) = (q, p, ⊎_elim inr inl e)

pub cross_operands_mutual : (a b : Instruction) → CrossOperands a b → CrossOperands b a
cross_operands_mutual a b (u, v, p, q, e, x, y, d) = (v, u, q, p, sym e, y, x, λ s. d (sym s))

pub same_port_mutual : (a b : PortClaim) → SamePort a b → SamePort b a
same_port_mutual a b (s, p, q, e, d) = (s, q, p, sym e, λ m. d (⊎_elim (λ (x, y). inr (y, x)) (λ (x, y). inl (y, x)) m))

pub double_write_mutual : (a b : WriteClaim) → DoubleWrite a b → DoubleWrite b a
double_write_mutual a b ((i, j, l, hi, hj, p, q), (v, hv, x, y)) = ((j, i, l, hj, hi, q, p), (v, hv, y, x))
