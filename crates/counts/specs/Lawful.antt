-- The algebra of counts is lawful: its meaning is well formed, and equal samples are those of equal atoms.
use Rattle.std.specs.Prelude.{◌≡◌, ℕ, ◌^◌, ◌<◌, ◌≤◌, Bool, true, false, List, length, ℤ, ◌==◌, refl}
use Rattle.std.proofs.Common.{ap, arith}
use Rattle.std.proofs.lemmas.Bool.Decides.{nat_tests}
use Rattle.std.proofs.lemmas.Bool.{lt-ltb, cond_both}
use Rattle.remora.specs.Algebras.{Formed, Legal, UnitFits, all_held}
use Rattle.algebra.specs.Promises.{Denotes}
use Rattle.algebra.proofs.Cases.{each, one_code, two_codes, three_codes, Known, known_at}
use Rattle.counts.specs.declared.Value.{Value}
use Rattle.counts.specs.declared.Value.TheVariants.{Count, Flag}
use Rattle.counts.specs.Tables.{flag, counts, holds, wrapped}
use Rattle.counts.specs.Denoted.{sampled}
use Rattle.counts.specs.Wraps.{wrapped_small}

-- A flag's code is one.
flag_held : (b : Bool) → holds 1 (flag b) ≡ true
flag_held true = refl
flag_held false = refl

-- A wrapped number is a code of a count.
wrapped_held : (z : ℤ) → holds 0 (wrapped z) ≡ true
wrapped_held z = lt-ltb (wrapped z) (2 ^ 32) (wrapped_small z)

-- A code that a base type holds is below 2^64.
code_small : (b c : ℕ) → holds b c ≡ true → c < 2 ^ 64
code_small b c h = grind (arith, nat_tests)

-- Only base types 0 and 1 hold codes.
base_known : (b c : ℕ) → holds b c ≡ true → b < 2
base_known b c h = grind (arith, nat_tests)

-- The operands of the nine operators are of base types 0 and 1.
known : (op : ℕ) → op < 9 → Known 2 (counts.operator op).operands
unfolding Known
known =
    let a : 0 < 2 = omega arith in
    let b : 1 < 2 = omega arith in
    each (λ op. Known 2 (counts.operator op).operands) (a, (a, tt)) (a, (a, tt)) (a, (a, tt)) (a, (a, tt)) (a, (a, tt)) (b, (b, tt)) (b, (b, tt)) (b, tt) (b, (a, (a, tt)))

-- The meaning is well formed.
formed : Formed counts
formed = record {
  some_bases = omega arith;
  few_bases = omega arith;
  some_operators = omega arith;
  few_operators = omega arith;
  codes_small = code_small;
  bases_known = base_known;
  some_operands = each (λ op. 1 ≤ length (counts.operator op).operands) (omega arith) (omega arith) (omega arith) (omega arith) (omega arith) (omega arith) (omega arith) (omega arith) (omega arith);
  few_operands = each (λ op. length (counts.operator op).operands ≤ 3) (omega arith) (omega arith) (omega arith) (omega arith) (omega arith) (omega arith) (omega arith) (omega arith) (omega arith);
  operand_known = λ op k h l. known_at 2 _ (known op h) k l;
  result_known = each (λ op. (counts.operator op).result < 2) (omega arith) (omega arith) (omega arith) (omega arith) (omega arith) (omega arith) (omega arith) (omega arith) (omega arith);
  unit_fits = each (λ op. UnitFits counts (counts.operator op) (counts.operator op).unit) (refl, refl) tt (refl, refl) tt tt (refl, refl) (refl, refl) tt tt;
  legal = λ op cs h. each (λ o. (ds : List ℕ) → all_held holds (counts.operator o).operands ds ≡ true → Legal counts (counts.operator o).result (counts.assign o ds))
      (two_codes holds _ 0 0 (λ x y p q. wrapped_held _))
      (two_codes holds _ 0 0 (λ x y p q. wrapped_held _))
      (two_codes holds _ 0 0 (λ x y p q. wrapped_held _))
      (two_codes holds _ 0 0 (λ x y p q. cond_both (y == 0) _ _ (Legal counts 0) (λ e. (omega arith, omega arith)) (λ e. wrapped_held _)))
      (two_codes holds _ 0 0 (λ x y p q. flag_held _))
      (two_codes holds _ 1 1 (λ x y p q. flag_held _))
      (two_codes holds _ 1 1 (λ x y p q. flag_held _))
      (one_code holds _ 1 (λ x p. flag_held _))
      (three_codes holds _ 1 0 0 (λ x y z p q r. cond_both (x == 1) y z (λ n. holds 0 n ≡ true) (λ e. q) (λ e. r)))
      op h cs;
}

-- Equal samples are those of equal atoms.
apart : (a b : Value) → sampled a ≡ sampled b → a ≡ b
apart (Count m) (Count n) e = ap Count (ap (λ s. s.code) e)
apart (Count m) (Flag c) e = absurd (omega (arith, ap (λ s. s.base) e))
apart (Flag b) (Count n) e = absurd (omega (arith, ap (λ s. s.base) e))
apart (Flag true) (Flag true) e = refl
apart (Flag true) (Flag false) e = absurd (omega (arith, ap (λ s. s.code) e))
apart (Flag false) (Flag true) e = absurd (omega (arith, ap (λ s. s.code) e))
apart (Flag false) (Flag false) e = refl

-- The law of an algebra.
pub lawful : Denotes counts sampled
lawful = record { formed = formed; apart = apart }
