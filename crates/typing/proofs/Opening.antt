-- The types of parameters, one at a time.
use Rattle.std.proofs.Common.{◌≡◌, ℕ, ◌+◌, ◌<◌, Bool, false, ◌&&◌, ltb, List, [], ◌∷◌, ◌++◌, length, get_or, take, drop, set, Some, None, sym, ap, ◌∙◌}
use Rattle.std.proofs.lemmas.List.{take_more_set, map-append, drop-map, drop_more, map_more, take-map}
use Rattle.remora.specs.Shapes.{allowed}
use Rattle.remora.specs.Algebras.{Meaning}
use Rattle.remora.specs.Formulas as theory
use Rattle.remora.specs.Calls.{known_types}
use Rattle.lines.specs.declared.given.ParameterType.{ParameterType}
use Rattle.lines.specs.Lines.{type_of, types_given}
use Rattle.shapes.specs.declared.ArrayType.{ArrayType}
use Rattle.shapes.specs.Axes.{array_type}
use Rattle.typing.specs.Typings.{types_of}
use Rattle.typing.specs.Parameters.{KnownType}

module _ (m : Meaning) (ts : List ParameterType) (i : ℕ) (d : ParameterType) (h : i < length ts) where
  -- the types from number i on
  from_here : known_types m (drop i (types_given ts)) ≡ ((ltb (type_of (get_or ts i d)).base m.bases && allowed (type_of (get_or ts i d)).shape) && known_types m (drop (i + 1) (types_given ts)))
  from_here =
      ap (known_types m) (drop-map type_of i ts ∙ ap types_given (drop_more ts i d h))
      ∙ ap (λ (us : List theory.ArrayType). (ltb (type_of (get_or ts i d)).base m.bases && allowed (type_of (get_or ts i d)).shape) && known_types m us) (sym (drop-map type_of (i + 1) ts))

  -- one more is known
  pub known_yes : (t : ArrayType) → KnownType m (type_of (get_or ts i d)) (Some t) → known_types m (drop i (types_given ts)) ≡ known_types m (drop (i + 1) (types_given ts))
  known_yes t k = from_here ∙ ap (λ (b : Bool). b && known_types m (drop (i + 1) (types_given ts))) k.0

  -- the next is not
  pub known_no : KnownType m (type_of (get_or ts i d)) None → known_types m (drop i (types_given ts)) ≡ false
  known_no k = from_here ∙ ap (λ (b : Bool). b && known_types m (drop (i + 1) (types_given ts))) k

  -- and is kept
  pub kept_more : (all : List ArrayType) (t : ArrayType) → i < length all → types_of (take i all) ≡ take i (types_given ts) → KnownType m (type_of (get_or ts i d)) (Some t)
      → types_of (take (i + 1) (set all i t)) ≡ take (i + 1) (types_given ts)
  kept_more all t room e k =
      ap types_of (take_more_set all i t room)
      ∙ map-append array_type (take i all) (t ∷ [])
      ∙ (λ j. (e ∙ take-map type_of i ts) j ++ k.1 j ∷ [])
      ∙ sym (take-map type_of (i + 1) ts ∙ map_more type_of ts i d h)
