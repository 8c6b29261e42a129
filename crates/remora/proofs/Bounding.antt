-- A run never has more than 16 activations, and no call writes outside its parameter atoms and room.
use Rattle.std.proofs.Common.{◌≡◌, ℕ, ◌-◌, ◌<◌, ◌≤◌, true, ◌&&◌, eqb, leb, ◌⊎◌, List, [], ◌∷◌, length, drop, sym, refl, ap, ◌∙◌, subst, inl, inr, arith}
use Rattle.std.proofs.lemmas.Bool.{and_parts, ltb-true, eqb-true, leb-true}
use Rattle.remora.specs.Algebras.{Sample, Meaning, Formed}
use Rattle.remora.specs.Formulas.{Formula, Entry}
use Rattle.remora.specs.Forecasts.{within_limits}
use Rattle.remora.specs.Evaluation.{Fault, Outcome, yields, faults}
use Rattle.remora.specs.Numbers.{known, outcome, AllTyped}
use Rattle.remora.specs.Machine.{Activation, put, Snapshot, at, more, done, faulted, step}
use Rattle.remora.specs.Calls.{Run, absent, going, finished, broken, State, empty, entry_at, plan_at, with_run, Call, begin, step', result, close, Answer, number, fault, is_done, goes_on, Reply, reply, refusal, parameter_atoms, codes_fit, samples_for, needs, first_activation, begin_questions, begins_run, result_questions, writes_result, close_questions, ends_run, progressed, serve_step, serve_result, serve}
use Rattle.remora.specs.Histories.{Event, event, Leads, Reading, unread, read_call, read_from, activations, reach, Untouched, EveryRunBounded}
use Rattle.remora.proofs.Regions.{Same, put_same}
use Rattle.remora.proofs.Running.{store_of, activations_of, Plans, Runs, stay, move, goods_all}
use Rattle.remora.proofs.Sizes.{typed_sounds}
use Rattle.remora.proofs.Agreeing.{asked_cases, Later, later_refl, later_trans, read_later, Agrees, agrees_empty, event_agrees}
use Rattle.remora.proofs.Following.{Ok, plans_ok, entry_same, begin_ends, Ending, step_reply, About, steps, begins, results, closes, others, about, length_samples, snapshot_is}

module _ (m : Meaning) (formed : Formed m) where
  -- the step that ends a run answers done, or a fault that writes only within reach
  abbrev EndsAt : List Formula → (g : ℕ) → (Plans → Type 0) → Snapshot → Type 0
  EndsAt fs g ok last =
      ((q : ℕ) × ((F : Plans) → ok F → step m F last ≡ done (store_of last) q))
      ⊎ ((after : Snapshot) × (x : Fault Sample) × ((F : Plans) → ok F → step m F last ≡ faulted after x) × Same 0 (needs (known m fs g)) (store_of last) (store_of after))

  -- a run at work: what is left of it, within its depth and its reach
  record Working (r : Reading) (S : List Sample) (g : ℕ) (ts : List Activation) : Type 0 where
    formulas : List Formula
    entered : g < length formulas
    later : Later formulas r.formulas
    left : ℕ
    last : Snapshot
    runs : Runs m (Ok m formed formulas g entered) (known m formulas g).depth 0 (needs (known m formulas g)) left (at S ts) last
    ends : EndsAt formulas g (Ok m formed formulas g entered) last
    room : needs (known m formulas g) ≤ length S
    few : length ts ≤ (known m formulas g).depth
    shallow : (known m formulas g).depth ≤ 16

  abbrev RunFine : Reading → List Sample → Run → Type 0
  RunFine r S absent = Unit {0}
  RunFine r S (going g ts) = Working r S g ts
  RunFine r S (finished g q) = Unit {0}
  RunFine r S (broken g) = Unit {0}

  fine_later : (r r' : Reading) (S : List Sample) (u : Run) → Later r.formulas r'.formulas → RunFine r S u → RunFine r' S u
  fine_later r r' S absent o f = tt
  fine_later r r' S (going g ts) o f =
      record { formulas = f.formulas; entered = f.entered; later = later_trans _ _ _ f.later o; left = f.left; last = f.last; runs = f.runs; ends = f.ends; room = f.room; few = f.few; shallow = f.shallow }
  fine_later r r' S (finished g q) o f = tt
  fine_later r r' S (broken g) o f = tt

  -- what a reply owes: the run is fine, and the store is untouched behind its reach
  abbrev Owed : Reading → Call → List Sample → Reply → Type 0
  Owed r c S z = RunFine (read_call r c z.answer) z.store z.state.run × Untouched S z

  untouched_same : (S : List Sample) (z : Reply) → z.store ≡ S → Untouched S z
  untouched_same S z e = record { behind = ap (drop (reach z.state z.state.run)) e; long = ap length e }

  -- a call that leaves run and store alone
  owed_still : (r : Reading) (s : State) (S : List Sample) (c : Call) → ((serve m s S c).state.run ≡ s.run) × ((serve m s S c).store ≡ S) → RunFine r S s.run → Owed r c S (serve m s S c)
  owed_still r s S c k f = (
    subst (λ (T : List Sample). RunFine (read_call r c (serve m s S c).answer) T (serve m s S c).state.run) (sym k.1)
        (subst (RunFine (read_call r c (serve m s S c).answer) S) (sym k.0) (fine_later r (read_call r c (serve m s S c).answer) S s.run (read_later r c _) f)),
    untouched_same S (serve m s S c) k.1,
  )

  depth_small : (x : Entry) → within_limits x ≡ true → x.depth ≤ 16
  depth_small x w = leb-true _ _ (and_parts (leb x.room 1048576) (leb x.depth 16) (and_parts (leb x.steps 4294967295) (leb x.room 1048576 && leb x.depth 16) w).1).1

  working : (r : Reading) (S : List Sample) (fs : List Formula) (g : ℕ) (l : g < length fs) (j : ℕ) (ts : List Activation) (x : Outcome ℕ) → Later fs r.formulas → needs (known m fs g) ≤ length S
      → length ts ≤ (known m fs g).depth → (known m fs g).depth ≤ 16 → Ending m formed fs g l j (at S ts) x → Working r S g ts
  working r S fs g l j ts (yields ys) o room few deep (f, long, inb) =
      record { formulas = fs; entered = l; later = o; left = (known m fs g).steps - 1; last = f.last; runs = f.runs; ends = inl (f.place, f.ends); room = room; few = few; shallow = deep }
  working r S fs g l j ts (faults x) o room few deep (f, own) =
      record { formulas = fs; entered = l; later = o; left = j; last = f.before; runs = f.runs; ends = inr (f.after, _, f.fails, f.kept); room = room; few = few; shallow = deep }

  some_depth : (fs : List Formula) (g : ℕ) → g < length fs → AllTyped m fs → 1 ≤ (known m fs g).depth
  some_depth fs g l t = (goods_all m (Ok m formed fs g l) (known m fs g).depth fs (λ F o h k. o h k) (typed_sounds m fs t) g l).some_depth

  owed_begin : (r : Reading) (s : State) (S : List Sample) (g : ℕ) (cs : List ℕ) → Agrees m r s → RunFine r S s.run → Owed r (begin g cs) S (serve m s S (begin g cs))
  owed_begin r s S g cs a f =
      asked_cases (Owed r (begin g cs) S) (begin_questions m s S g cs) (begins_run s S g cs) (refusal s S)
      (λ y. go (ltb-true g (length s.formulas) (and_parts _ _ y.1.0).0)
      (eqb-true _ _ (and_parts (eqb (length cs) (parameter_atoms (entry_at s g).parameters)) (codes_fit m.holds (entry_at s g).parameters cs) y.1.1.0).0)
      (and_parts (eqb (length cs) (parameter_atoms (entry_at s g).parameters)) (codes_fit m.holds (entry_at s g).parameters cs) y.1.1.0).1
      (leb-true _ _ y.1.1.1.0))
      (λ n. (f, untouched_same S (refusal s S n) refl))
    where
      fs : List Formula
      fs = r.formulas

      go : g < length s.formulas → length cs ≡ parameter_atoms (entry_at s g).parameters → codes_fit m.holds (entry_at s g).parameters cs ≡ true → needs (entry_at s g) ≤ length S → Owed r (begin g cs) S (begins_run s S g cs)
      go k len right room =
          let l : g < length fs = let c = a.count in omega arith in
          let x_is : entry_at s g ≡ known m fs g = a.entries g in
          let len' : length cs ≡ parameter_atoms (known m fs g).parameters = len ∙ ap (λ (x : Entry). parameter_atoms x.parameters) x_is in
          let right' : codes_fit m.holds (known m fs g).parameters cs ≡ true = ap (λ (x : Entry). codes_fit m.holds x.parameters cs) (sym x_is) ∙ right in
          let room' : needs (known m fs g) ≤ length S = subst (λ (x : Entry). needs x ≤ length S) x_is room in
          let long = length_samples (known m fs g).parameters cs len' in
          let put_is = put_same 0 (needs (known m fs g)) S 0 (samples_for (known m fs g).parameters cs) (omega arith) (omega arith) (omega arith) in
          let same_length = put_is.long in
          let story = begin_ends m formed fs g l a.typed S cs len' right' room' in (
            subst (λ (x : Entry). Working r (put S 0 (samples_for x.parameters cs)) g (first_activation x g ∷ [])) (sym x_is)
                (working r (put S 0 (samples_for (known m fs g).parameters cs)) fs g l _ (first_activation (known m fs g) g ∷ []) (outcome m fs g cs) (later_refl fs) (omega arith) (some_depth fs g l a.typed) (depth_small (known m fs g) (a.within g l)) story.1),
            subst (λ (x : Entry). Untouched S (reply (number (entry_at s g).steps) (with_run s (going g (first_activation (entry_at s g) g ∷ []))) (put S 0 (samples_for x.parameters cs)))) (sym x_is)
                (record { behind = subst (λ (x : Entry). drop (needs x) (put S 0 (samples_for (known m fs g).parameters cs)) ≡ drop (needs x) S) (sym x_is) put_is.high; long = same_length }),
          )

  progressed_step : (s : State) (S : List Sample) (g : ℕ) (x : Snapshot) → progressed s S g (more x) ≡ reply goes_on (with_run s (going g (activations_of x))) (store_of x)
  progressed_step s S g (at T ts) = refl

  progressed_broken : (s : State) (S : List Sample) (g : ℕ) (x : Snapshot) (y : Fault Sample) → progressed s S g (faulted x y) ≡ reply (fault y.cause y.formula y.line y.cell) (with_run s (broken g)) (store_of x)
  progressed_broken s S g (at T ts) y = refl

  -- a step from a run at work
  owed_going : (r : Reading) (s : State) (S : List Sample) (g : ℕ) (ts : List Activation) → s.run ≡ going g ts → Agrees m r s → (w : Working r S g ts) → Owed r step' S (serve m s S step')
  owed_going r s S g ts u a w = go w.left w.last w.runs w.ends
    where
      x_is : entry_at s g ≡ known m w.formulas g
      x_is = entry_same m formed w.formulas g w.entered r s a w.later

      base : serve m s S step' ≡ progressed s S g (step m (plan_at s) (at S ts))
      base = step_reply m formed w.formulas g w.entered r s S (at S ts) a w.later u refl w.room

      plans_fit : Ok m formed w.formulas g w.entered (plan_at s)
      plans_fit = plans_ok m formed w.formulas g w.entered r s a w.later

      untouched : (b : Answer) (v : Run) (T : List Sample) → reach (with_run s v) v ≡ needs (entry_at s g) → Same 0 (needs (known m w.formulas g)) S T → Untouched S (reply b (with_run s v) T)
      untouched b v T e k =
          let n-is : reach (with_run s v) v ≡ needs (known m w.formulas g) = e ∙ ap needs x_is in
          record { behind = subst (λ (n : ℕ). drop n T ≡ drop n S) (sym n-is) k.high; long = k.long }

      go : (j : ℕ) (last : Snapshot) → Runs m (Ok m formed w.formulas g w.entered) (known m w.formulas g).depth 0 (needs (known m w.formulas g)) j (at S ts) last
          → EndsAt w.formulas g (Ok m formed w.formulas g w.entered) last → Owed r step' S (serve m s S step')
      go j last stay (inl (q, e)) =
          let z : serve m s S step' ≡ reply is_done (with_run s (finished g q)) S = base ∙ ap (progressed s S g) (e (plan_at s) plans_fit) in
          subst (Owed r step' S) (sym z) (tt, untouched is_done (finished g q) S refl (record { low = refl; high = refl; long = refl }))
      go j last stay (inr (after, x, e, k)) =
          let z : serve m s S step' ≡ reply (fault x.cause x.formula x.line x.cell) (with_run s (broken g)) (store_of after) =
          base ∙ ap (progressed s S g) (e (plan_at s) plans_fit) ∙ progressed_broken s S g after x in
          subst (Owed r step' S) (sym z) (tt, untouched _ (broken g) (store_of after) refl k)
      go j last (move {n = n} {t = t} e same few runs) ends =
          let z : serve m s S step' ≡ reply goes_on (with_run s (going g (activations_of t))) (store_of t) = base ∙ ap (progressed s S g) (e (plan_at s) plans_fit) ∙ progressed_step s S g t in
          let k = same.long in
          let enough = w.room in
          let t-is : at (store_of t) (activations_of t) ≡ t = snapshot_is t in
          subst (Owed r step' S) (sym z) (
            record {
              formulas = w.formulas;
              entered = w.entered;
              later = w.later;
              left = n;
              last = last;
              runs = subst (λ (v : Snapshot). Runs m (Ok m formed w.formulas g w.entered) (known m w.formulas g).depth 0 (needs (known m w.formulas g)) n v last) (sym t-is) runs;
              ends = ends;
              room = omega arith;
              few = few;
              shallow = w.shallow;
            },
            untouched goes_on (going g (activations_of t)) (store_of t) refl same,
          )

  owed_step : (r : Reading) (s : State) (S : List Sample) (u : Run) → s.run ≡ u → Agrees m r s → RunFine r S u → Owed r step' S (serve m s S step')
  owed_step r s S absent e a f = subst (Owed r step' S) (sym (ap (serve_step m s S) e)) (subst (RunFine r S) (sym e) tt, untouched_same S (refusal s S 19) refl)
  owed_step r s S (going g ts) e a f = owed_going r s S g ts e a f
  owed_step r s S (finished g q) e a f = subst (Owed r step' S) (sym (ap (serve_step m s S) e)) (subst (RunFine r S) (sym e) tt, untouched_same S (refusal s S 19) refl)
  owed_step r s S (broken g) e a f = subst (Owed r step' S) (sym (ap (serve_step m s S) e)) (subst (RunFine r S) (sym e) tt, untouched_same S (refusal s S 19) refl)

  owed_result : (r : Reading) (s : State) (S : List Sample) (k : ℕ) (u : Run) → RunFine r S s.run → Owed r (result k) S (serve_result s S k u)
  owed_result r s S k absent f = (f, untouched_same S (refusal s S 20) refl)
  owed_result r s S k (going g ts) f = (f, untouched_same S (refusal s S 20) refl)
  owed_result r s S k (finished g q) f =
      asked_cases (Owed r (result k) S) (result_questions s S g k) (writes_result s S g q) (refusal s S) (λ y. (f, untouched_same S (writes_result s S g q) refl)) (λ n. (f, untouched_same S (refusal s S n) refl))
  owed_result r s S k (broken g) f = (f, untouched_same S (refusal s S 20) refl)

  owed_about : (r : Reading) (s : State) (S : List Sample) (c : Call) → About c → Agrees m r s → RunFine r S s.run → Owed r c S (serve m s S c)
  owed_about r s S c steps a f = owed_step r s S s.run refl a f
  owed_about r s S c (begins g cs) a f = owed_begin r s S g cs a f
  owed_about r s S c (results k) a f = owed_result r s S k s.run f
  owed_about r s S c closes a f = asked_cases (Owed r close S) (close_questions s) (ends_run s S) (refusal s S) (λ y. (tt, untouched_same S (ends_run s S) refl)) (λ n. (f, untouched_same S (refusal s S n) refl))
  owed_about r s S c (others still away) a f = owed_still r s S c (still m s S) f

  owed : (r : Reading) (s : State) (S : List Sample) (c : Call) → Agrees m r s → RunFine r S s.run → Owed r c S (serve m s S c)
  owed r s S c a f = owed_about r s S c (about c) a f

  leads_fine : (h : List Event) (r : Reading) (s t : State) (S T : List Sample) → Leads m s S h t T → Agrees m r s → RunFine r S s.run → Agrees m (read_from r h) t × RunFine (read_from r h) T t.run
  leads_fine [] r s t S T l a f = (subst (Agrees m r) l.0 a, subst (λ (U : List Sample). RunFine r U t.run) l.1 (subst (λ (v : State). RunFine r S v.run) l.0 f))
  leads_fine (event c b ∷ h) r s t S T l a f =
      leads_fine h (read_call r c b) (serve m s S c).state t (serve m s S c).store T l.1 (event_agrees m r s S c b l.0 a)
      (subst (λ (x : Answer). RunFine (read_call r c x) (serve m s S c).store (serve m s S c).state.run) (sym l.0) (owed r s S c a f).0)

  fine_few : (r : Reading) (S : List Sample) (u : Run) → RunFine r S u → length (activations u) ≤ 16
  fine_few r S absent f = omega arith
  fine_few r S (going g ts) f = let a = f.few in let b = f.shallow in omega arith
  fine_few r S (finished g q) f = omega arith
  fine_few r S (broken g) f = omega arith

pub every_run_bounded : EveryRunBounded
every_run_bounded m formed h s S led =
    let u = leads_fine m formed h unread empty s led.0 S led.1 (agrees_empty m) tt in
    (fine_few m formed (read_from unread h) S s.run u.1, λ c. (owed m formed (read_from unread h) s S c u.0 u.1).1)
