-- The rule of rows over the whole built-in table. A ghost member cites the proof, so it stands here; a reader need not.
use Rattle.std.specs.Prelude.{◌≡◌, true, refl}
use Rattle.std.proofs.Common.{subst}
use Rattle.std.proofs.lemmas.Option.{get_or_from_slice_get, slice_get_within}
use Rattle.std.proofs.lemmas.List.Sums.{AllPass-from_list_all}
use Rattle.isa.specs.Rows.{keeps_rule, Lawful}
use Rattle.isa.specs.BuiltIn.{built_in, built_in_map}

-- the rule, tested once over the whole table
pub built_in_lawful : Lawful built_in_map
built_in_lawful n w e =
    subst (λ x. keeps_rule x ≡ true) (get_or_from_slice_get built_in n w w e) (AllPass-from_list_all keeps_rule built_in refl n w (slice_get_within built_in n w e))
