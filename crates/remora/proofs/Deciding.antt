-- The theorems on typing, evaluation and the course of histories.
use Rattle.std.proofs.Common.{◌≡◌, ℕ, suc, Bool, List, [], ◌∷◌, ◌++◌, length, Some, None, Option, sym, refl, ap, ◌∙◌, subst, append_assoc, append-nil, add-zero, add-one, arith, length-append}
use Rattle.remora.specs.Shapes.{size}
use Rattle.remora.specs.Algebras.{Sample, Meaning}
use Rattle.remora.specs.Formulas.{ArrayType, Line, Entry, TypedLine, type_of, types_of}
use Rattle.remora.specs.Typing.{no_lines, and_line}
use Rattle.remora.specs.Questions.{first_no, typed, questions, Verdict, all_typed, refused_at, before, unless, judge}
use Rattle.remora.specs.Evaluation.{Outcome, yields, faults, on_codes}
use Rattle.remora.specs.Numbers.{known, eval, arguments, outcome}
use Rattle.remora.specs.Machine.{on_samples}
use Rattle.remora.specs.Calls.{State, Call, serve}
use Rattle.remora.specs.Histories.{Event, event, Leads}
use Rattle.remora.specs.Theorems.{PrincipalFrameIsJoin, QuestionsDecideTyping, Says, VerdictDecidesTyping, OfType, TypedFormulasAreSound, HistoriesGoOn}
use Rattle.remora.proofs.Prefixes.{principal_join, join_principal}
use Rattle.remora.proofs.Checking.{first_no_none, questions_type, type_questions, types_judge}
use Rattle.remora.proofs.Sizes.{Fit, LengthO, typed_sounds, keeps_all}
use Rattle.remora.proofs.Simulation.{SimO, map_arrays, own_caused, sims_all}
use Rattle.remora.proofs.Following.{fit_args, right_args}

pub principal_frame_is_join : PrincipalFrameIsJoin
principal_frame_is_join fs = (principal_join fs, join_principal fs)

pub questions_decide_typing : QuestionsDecideTyping
questions_decide_typing m n E usable ps types l = (questions_type m n E usable ps types l, type_questions m n E usable ps types l)

module _ (m : Meaning) (n : ℕ) (E : ℕ → Entry) (usable : ℕ → Bool) (ps : List ArrayType) where
  -- a verdict on the rest of the lines, as one on all of them
  says_more : (types : List ArrayType) (l : Line) (ls : List Line) (v : Verdict) → first_no (questions m n E usable ps types l) ≡ None
      → Says m n E usable ps (types ++ type_of (typed m E ps types l) ∷ []) ls v → Says m n E usable ps types (l ∷ ls) (before (typed m E ps types l) v)
  says_more types l ls (all_typed rs) q s = and_line (questions_type m n E usable ps types l (first_no_none _ q)) s
  says_more types l ls (refused_at i k) q s =
      let r : TypedLine = typed m E ps types l in
      let long : length (types ++ type_of r ∷ []) ≡ suc (length types) = length-append types (type_of r ∷ []) ∙ add-one (length types) in
      let at = s.number in
      record {
        past = l ∷ s.past;
        line = s.line;
        rest = s.rest;
        before = r ∷ s.before;
        apart = ap (λ (xs : List Line). l ∷ xs) s.apart;
        typed_before = and_line (questions_type m n E usable ps types l (first_no_none _ q)) s.typed_before;
        number = omega arith;
        the_first_no = ap (λ (ts : List ArrayType). first_no (questions m n E usable ps ts s.line)) (sym (append_assoc types (type_of r ∷ []) (types_of s.before))) ∙ s.the_first_no;
      }

  judge_says : (types : List ArrayType) (ls : List Line) → Says m n E usable ps types ls (judge m n E usable ps types ls)
  judge_says types [] = no_lines
  judge_says types (l ∷ ls) = go (first_no (questions m n E usable ps types l)) refl (judge_says (types ++ type_of (typed m E ps types l) ∷ []) ls)
    where
      go : (o : Option ℕ) → first_no (questions m n E usable ps types l) ≡ o → Says m n E usable ps (types ++ type_of (typed m E ps types l) ∷ []) ls (judge m n E usable ps (types ++ type_of (typed m E ps types l) ∷ []) ls)
          → Says m n E usable ps types (l ∷ ls) (unless o (length types) (typed m E ps types l) (judge m n E usable ps (types ++ type_of (typed m E ps types l) ∷ []) ls))
      go None q s = says_more types l ls _ q s
      go (Some i) q s = record {
        past = [];
        line = l;
        rest = ls;
        before = [];
        apart = refl;
        typed_before = no_lines;
        number = sym (add-zero (length types));
        the_first_no = ap (λ (ts : List ArrayType). first_no (questions m n E usable ps ts l)) (append-nil types) ∙ q;
      }

pub verdict_decides_typing : VerdictDecidesTyping
verdict_decides_typing m n E usable ps types ls = (judge_says m n E usable ps types ls, λ rs t. (types_judge m n E usable ps types ls rs t).0)

pub typed_formulas_are_sound : TypedFormulasAreSound
typed_formulas_are_sound m formed fs typed g l cs len right =
    go (outcome m fs g cs) (eval m (on_samples m) fs g (map_arrays (arguments (known m fs g).parameters cs)))
    (sims_all m formed fs (typed_sounds m fs typed) g l (arguments (known m fs g).parameters cs) (right_args m.holds (known m fs g).parameters cs right) fits)
    (keeps_all m (on_codes m) fs (typed_sounds m fs typed) g l (arguments (known m fs g).parameters cs) fits)
  where
    fits : Fit (known m fs g).parameters (arguments (known m fs g).parameters cs)
    fits = fit_args (known m fs g).parameters cs len

    go : (x : Outcome ℕ) (y : Outcome Sample) → SimO m formed (known m fs g).result.base x y → LengthO (size (known m fs g).result.shape) x → OfType m (known m fs g).result x
    go (yields ys) y s k = (k, s.0)
    go (faults x) y s k = own_caused m formed x s.0

leads_on : (m : Meaning) (h : List Event) (s t : State) (S T : List Sample) (c : Call) → Leads m s S h t T → Leads m s S (h ++ event c (serve m t T c).answer ∷ []) (serve m t T c).state (serve m t T c).store
leads_on m [] s t S T c l = subst (λ (u : State). Leads m u S (event c (serve m t T c).answer ∷ []) (serve m t T c).state (serve m t T c).store) (sym l.0)
    (subst (λ (U : List Sample). Leads m t U (event c (serve m t T c).answer ∷ []) (serve m t T c).state (serve m t T c).store) (sym l.1) (refl, (refl, refl)))
leads_on m (event d a ∷ h) s t S T c l = (l.0, leads_on m h (serve m s S d).state t (serve m s S d).store T c l.1)

pub histories_go_on : HistoriesGoOn
histories_go_on = record { starts = λ m S. (S, (refl, refl)); goes_on = λ m h s S c led. (led.0, leads_on m h _ s _ S c led.1) }
