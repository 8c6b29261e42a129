-- A draft that is checked.
use Rattle.std.proofs.Common.{◌≡◌, ℕ, ◌+◌, ◌-◌, ◌<◌, ◌≤◌, Bool, cond, List, [], length, get_or, take, Some, None, Ok, Err, Result, sym, refl, ap, ◌∙◌, subst, arith, length-append, length-drop, length-take-le}
use borrow.Rule.Slice.PartMut.{put_mid}
use Rattle.std.proofs.lemmas.List.{take_at, get_or-take}
use Rattle.remora.specs.Algebras.{Meaning}
use Rattle.remora.specs.Formulas as theory
use Rattle.remora.specs.Forecasts.{limited, within_limits}
use Rattle.remora.specs.Forecasts.{entry_of as entry_for}
use Rattle.remora.specs.Calls.{refused}
use Rattle.lines.specs.declared.refusals.Refusal.{Refusal}
use Rattle.shapes.specs.declared.ArrayType.{ArrayType}
use Rattle.shapes.specs.Axes.{array_type}
use Rattle.typing.specs.declared.found.Entry.{Entry}
use Rattle.typing.specs.Typings.{types_of}
use Rattle.typing.specs.Plans.{entry_of, known_in}
use Rattle.checker.specs.declared.rows.Row.{Row}
use Rattle.checker.specs.declared.drafts.Draft.{Draft}
use Rattle.checker.specs.declared.forecasts.Forecast.{Forecast}
use Rattle.checker.specs.Views.{lines_in}
use Rattle.checker.specs.Forecasting.{room_in}
use Rattle.checker.specs.Checking.{givens, verdict, Checked, RefusedBy, CheckedAs, refusal_of, with_rows, LimitedBy, DraftChecked}
use Rattle.checker.proofs.Judging.{givens_length, result_found}

-- the lines of a draft after its first h were written
pub front_written : (xs ys : List Row) (h : ℕ) → length ys ≡ h → take h (put_mid 0 (h - 0) xs ys) ≡ ys
front_written xs ys h e = take_at ys _ h e

pub front_length : (xs ys : List Row) (h : ℕ) → length ys ≡ h → h ≤ length xs → length (put_mid 0 (h - 0) xs ys) ≡ length xs
front_length xs ys h e k = length-append ys _ ∙ (λ i. e i + length-drop (h - 0) xs i) ∙ omega arith

module _ (m : Meaning) (es : List Entry) (d : Draft) (all : List Row) (f : Forecast) (long : length all ≡ length d.rows) where
  abbrev ps : List theory.ArrayType
  ps = types_of (take d.parameters.count d.parameters.all)

  abbrev first : List Row
  first = take d.height d.rows

  -- a line is refused
  pub draft_refused : (x : Refusal) → RefusedBy (verdict m es ps [] (lines_in d.codes first)) x → givens (take d.height all) ≡ givens first → DraftChecked m es d (Err x) (with_rows d all)
  draft_refused x r given = record {
    told = ap (refusal_of (known_in es) ps) r.judged ∙ ap Some (sym r.answer);
    same = refl;
    given = given;
    long = long;
  }

  module _ (c : Checked m es ps d.codes first (take d.height all) f) where
    -- the forecasts of the lines make those of the formula
    limits : limited (1 + f.steps) (room_in f) (1 + f.depth) ≡ within_limits (entry_for (known_in es) ps c.typed)
    limits = λ i. limited (1 + c.steps i) (c.room i) (1 + c.depth i)

    -- the forecasts are beyond the limits
    pub draft_beyond : (result : ArrayType) (x : Refusal) → LimitedBy d.parameters result f (Err x) → DraftChecked m es d (Err x) (with_rows d all)
    draft_beyond result x l = record {
      told = ap (refusal_of (known_in es) ps) c.judged ∙ ap (λ (b : Bool). cond b None (Some (refused 14 None))) (sym limits ∙ l.0) ∙ ap Some (sym l.1);
      same = refl;
      given = c.given;
      long = long;
    }

    -- the draft is accepted
    pub draft_accepted : (e : Entry) (none : Row) → 0 < d.height → d.height ≤ length d.rows → LimitedBy d.parameters (get_or all (d.height - 1) none).found.array f (Ok e) → DraftChecked m es d (Ok e) (with_rows d all)
    draft_accepted e none some few l =
        let n : ℕ = d.height - 1 in
        let tall : length (take d.height all) ≡ n + 1 = length-take-le d.height all (omega arith) ∙ omega arith in
        let result_is : array_type (get_or all n none).found.array ≡ theory.result_type c.typed =
        ap (λ (r : Row). array_type r.found.array) (sym (get_or-take d.height all n none (omega arith))) ∙ result_found m es ps d.codes first (take d.height all) f n none c tall in
        record {
          told = record {
            typed = c.typed;
            judged = c.judged;
            planned = c.planned;
            limited = (
              sym limits ∙ l.0,
              ap entry_of l.1 ∙ (λ i. record { parameters = ps; result = result_is i; steps = 1 + c.steps i; room = c.room i; depth = 1 + c.depth i }),
              ap (λ (z : Entry). z.withdrawn) l.1,
            );
          };
          same = refl;
          given = c.given;
          long = long;
        }

-- what the code's own lists say: the first lines of the draft, and its parameters
module _ (m : Meaning) (es : List Entry) (d : Draft) (before after : List Row) (own : List ArrayType) (f : Forecast)
    (before-is : before ≡ take d.height d.rows) (own_is : own ≡ take d.parameters.count d.parameters.all) (few : d.height ≤ length d.rows) where
  abbrev all : List Row
  all = put_mid 0 (d.height - 0) d.rows after

  -- as many lines as before
  tall : givens after ≡ givens before → length after ≡ d.height
  tall e = givens_length after before e ∙ ap length before-is ∙ length-take-le d.height d.rows few

  -- the check in the draft's own terms
  moved : (r : Result Forecast Refusal) → givens after ≡ givens before → CheckedAs m es (types_of own) d.codes before r after
      → CheckedAs m es (types_of (take d.parameters.count d.parameters.all)) d.codes (take d.height d.rows) r (take d.height all)
  moved r e c =
      subst (λ (rs : List Row). CheckedAs m es (types_of (take d.parameters.count d.parameters.all)) d.codes (take d.height d.rows) r rs) (sym (front_written d.rows after d.height (tall e)))
      (subst (λ (rs : List Row). CheckedAs m es (types_of (take d.parameters.count d.parameters.all)) d.codes rs r after) before-is
      (subst (λ (ts : List ArrayType). CheckedAs m es (types_of ts) d.codes before r after) own_is c))

  -- all lines were typed
  pub check_done : (none : Row) (r : Result Entry Refusal) → 0 < d.height → CheckedAs m es (types_of own) d.codes before (Ok f) after
      → LimitedBy d.parameters (get_or all (d.height - 1) none).found.array f r → DraftChecked m es d r (with_rows d all)
  check_done none (Ok e) some c l =
      draft_accepted m es d all f (front_length d.rows after d.height (tall c.given) few) (moved (Ok f) c.given c) e none some few l
  check_done none (Err x) some c l =
      draft_beyond m es d all f (front_length d.rows after d.height (tall c.given) few) (moved (Ok f) c.given c) (get_or all (d.height - 1) none).found.array x l
