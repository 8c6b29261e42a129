-- What open asks of the types of parameters.
use Rattle.std.specs.Prelude.{◌≡◌, true, false, ◌&&◌, List, length, take, Some, None, Option, nat_le, nat_lt}
use Rattle.remora.specs.Shapes.{allowed}
use Rattle.remora.specs.Algebras.{Meaning}
use Rattle.remora.specs.Formulas as theory
use Rattle.remora.specs.Calls.{known_types}
use Rattle.shapes.specs.declared.ArrayType.{ArrayType}
use Rattle.shapes.specs.Axes.{array_type}
use Rattle.typing.specs.Typings.{types_of}
use Rattle.typing.specs.declared.parameters.Parameters.{Parameters}

-- A type is made of exactly those with a known base type and an allowed shape.
abbrev pub KnownType : Meaning → theory.ArrayType → Option ArrayType → Type 0
KnownType m t None = (nat_lt t.base m.bases && allowed t.shape) ≡ false
KnownType m t (Some s) = ((nat_lt t.base m.bases && allowed t.shape) ≡ true) × (array_type s ≡ t)

-- Types are kept of exactly those that open accepts.
abbrev pub KnownTypes : Meaning → List theory.ArrayType → Option Parameters → Type 0
KnownTypes m ts None = (nat_le (length ts) 4 && known_types m ts) ≡ false
KnownTypes m ts (Some p) = ((nat_le (length ts) 4 && known_types m ts) ≡ true) × (types_of (take p.count p.all) ≡ ts)
