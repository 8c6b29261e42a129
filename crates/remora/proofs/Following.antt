-- A run within a history: what the calls answer from its begin to its close.
use Rattle.std.proofs.Common.{◌≡◌, ℕ, ◌-◌, ◌<◌, ◌≤◌, Bool, true, false, not, ◌&&◌, ltb, leb, List, [], ◌∷◌, ◌++◌, map, length, take, drop, None, sym, refl, ap, ◌∙◌, subst, arith, length-append, length-drop, length-take-le, take_at, drop_at}
use Rattle.std.proofs.lemmas.List.{length-map}
use Rattle.std.proofs.lemmas.Bool.{and_parts, le-leb}
use Rattle.remora.specs.Shapes.{size}
use Rattle.remora.specs.Algebras.{Sample, sample_of, codes_of, Meaning, Formed}
use Rattle.remora.specs.Formulas.{ArrayType, Line, Formula, Entry}
use Rattle.remora.specs.Typing.{InSet}
use Rattle.remora.specs.Questions.{in_set, Verdict, all_typed, refused_at}
use Rattle.remora.specs.Forecasts.{entry_of, within_limits}
use Rattle.remora.specs.Evaluation.{Array, Fault, Outcome, yields, faults, on_codes}
use Rattle.remora.specs.Numbers.{pick, known, eval, arguments, outcome, AllTyped}
use Rattle.remora.specs.Machine.{part, put, Activation, on_samples, Snapshot, at, more, faulted, choose, step}
use Rattle.remora.specs.Calls.{slip_fits, draft_formula, draft_lines, none, Run, going, finished, broken, State, entry_at, plan_at, with_run, Call, open', line, enter, scrap, withdraw, entry, begin, step', result, close, Answer, refused, goes_on, is_done, fault, wrote, Reply, reply, refusal, open_questions, opens_draft, line_questions, adds_line, scrap_questions, drops_draft, withdraw_questions, marks_formula, entry_questions, tells_entry, parameter_atoms, codes_fit, samples_for, needs, first_activation, no_run, store_fits, writes_result, ends_run, progressed, serve_verdict, serve_step, serve_result, serve}
use Rattle.remora.specs.Histories.{Event, event, Leads, Reading, read_call, Turn, elsewhere, turn, turns, Goes, Yields, Faulted, Caused}
use Rattle.remora.proofs.Checking.{in_set_lem}
use Rattle.remora.proofs.Sizes.{Fit, LengthO, Sounds, typed_sounds, keeps_all, known_later}
use Rattle.remora.proofs.Simulation.{Right, map_arrays, on_fault, own_caused, SimO, sims_all}
use Rattle.remora.proofs.Running.{store_of, activations_of, Plans, Runs, stay, move, Fails, Good, planned, planned_below, goods_all, fault_step, Finishes, Story, run_from}
use Rattle.remora.proofs.Agreeing.{choose_cases, asked_cases, Later, later_trans, read_later, Agrees, rerun, event_agrees}

-- ---- the codes given to begin, and their samples

pub length_samples : (ts : List ArrayType) (cs : List ℕ) → length cs ≡ parameter_atoms ts → length (samples_for ts cs) ≡ parameter_atoms ts
length_samples [] cs e = refl
length_samples (t ∷ ts) cs e =
    let i = length_samples ts (drop (size t.shape) cs) (simp length-drop (omega arith)) in
    let j = length-take-le (size t.shape) cs (omega arith) in
    simp (length-append, length-map, j, i)

args_samples : (ts : List ArrayType) (cs : List ℕ) → length cs ≡ parameter_atoms ts → arguments ts (samples_for ts cs) ≡ map_arrays (arguments ts cs)
args_samples [] cs e = refl
args_samples (t ∷ ts) cs e =
    let j : length (map (sample_of t.base) (take (size t.shape) cs)) ≡ size t.shape = length-map (take (size t.shape) cs) (sample_of t.base) ∙ length-take-le (size t.shape) cs (omega arith) in
    rw (
      take_at (map (sample_of t.base) (take (size t.shape) cs)) (samples_for ts (drop (size t.shape) cs)) (size t.shape) j,
      drop_at (map (sample_of t.base) (take (size t.shape) cs)) (samples_for ts (drop (size t.shape) cs)) (size t.shape) j,
      args_samples ts (drop (size t.shape) cs) (simp length-drop (omega arith)),
    )

pub fit_args : (ts : List ArrayType) (cs : List ℕ) → length cs ≡ parameter_atoms ts → Fit ts (arguments ts cs)
fit_args [] cs e = tt
fit_args (t ∷ ts) cs e = (refl, length-take-le (size t.shape) cs (omega arith), fit_args ts (drop (size t.shape) cs) (simp length-drop (omega arith)))

pub right_args : (holds : ℕ → ℕ → Bool) (ts : List ArrayType) (cs : List ℕ) → codes_fit holds ts cs ≡ true → Right holds ts (arguments ts cs)
right_args holds [] cs e = tt
right_args holds (t ∷ ts) cs e =
    let u = and_parts (in_set holds t.base (take (size t.shape) cs)) (codes_fit holds ts (drop (size t.shape) cs)) e in
    (refl, in_set_lem holds t.base _ u.0, right_args holds ts (drop (size t.shape) cs) u.1)

pub codes_back : (b : ℕ) (ys : List ℕ) → codes_of (map (sample_of b) ys) ≡ ys
codes_back b [] = refl
codes_back b (y ∷ ys) = ap (λ (zs : List ℕ). y ∷ zs) (codes_back b ys)

planned_later : (m : Meaning) (fs newer : List Formula) (g : ℕ) → g < length fs → planned m (newer ++ fs) g ≡ planned m fs g
planned_later m fs [] g l = refl
planned_later m fs (f ∷ newer) g l = planned_below m f (newer ++ fs) g (simp length-append (omega arith)) ∙ planned_later m fs newer g l

-- ---- calls that leave the run and the store alone

abbrev pub Still : State → List Sample → Reply → Type 0
Still s S z = (z.state.run ≡ s.run) × (z.store ≡ S)

module _ (m : Meaning) (s : State) (S : List Sample) where
  still_open : (ps : List ArrayType) → Still s S (serve m s S (open' ps))
  still_open ps = asked_cases (Still s S) (open_questions m s ps) (opens_draft s S ps) (refusal s S) (λ y. (refl, refl)) (λ n. (refl, refl))

  still_line : (k : ℕ) (x : Line) → Still s S (serve m s S (line k x))
  still_line k x = asked_cases (Still s S) (line_questions m s k x) (adds_line s S x) (refusal s S) (λ y. (refl, refl)) (λ n. (refl, refl))

  still_verdict : (f : Formula) (v : Verdict) → Still s S (serve_verdict m s S f v)
  still_verdict f (all_typed rs) = choose_cases (Still s S) (within_limits (entry_of (entry_at s) f.parameters rs)) _ _ (λ y. (refl, refl)) (λ y. (refl, refl))
  still_verdict f (refused_at q k) = (refl, refl)

  still_enter : (k : ℕ) → Still s S (serve m s S (enter k))
  still_enter k =
      choose_cases (Still s S) (slip_fits s.draft k) _ _
      (λ y. choose_cases (Still s S) (not (none (draft_lines s.draft)) && ltb (length s.formulas) 64) _ _ (λ z. still_verdict (draft_formula s.draft) _) (λ z. (refl, refl)))
      (λ y. (refl, refl))

  still_scrap : (k : ℕ) → Still s S (serve m s S (scrap k))
  still_scrap k = asked_cases (Still s S) (scrap_questions s k) (drops_draft s S) (refusal s S) (λ y. (refl, refl)) (λ n. (refl, refl))

  still_withdraw : (g : ℕ) → Still s S (serve m s S (withdraw g))
  still_withdraw g = asked_cases (Still s S) (withdraw_questions s g) (marks_formula s S g) (refusal s S) (λ y. (refl, refl)) (λ n. (refl, refl))

  still_entry : (g : ℕ) → Still s S (serve m s S (entry g))
  still_entry g = asked_cases (Still s S) (entry_questions s g) (tells_entry s S g) (refusal s S) (λ y. (refl, refl)) (λ n. (refl, refl))

  -- ---- calls while a run is open

  pub begin_open : (g : ℕ) (cs : List ℕ) → no_run s.run ≡ false → serve m s S (begin g cs) ≡ refusal s S 16
  unfolding choose
  begin_open g cs e = rw e

  pub close_open : no_run s.run ≡ false → serve m s S close ≡ ends_run s S
  unfolding choose
  close_open e = rw e

-- ---- calls by what they are to a run

pub data About : Call → Type 0 where
  steps : About step'
  begins : (g : ℕ) (cs : List ℕ) → About (begin g cs)
  results : (k : ℕ) → About (result k)
  closes : About close
  others : {c : Call} → ((m : Meaning) (s : State) (S : List Sample) → Still s S (serve m s S c)) → ((a : Answer) → turn (event c a) ≡ elsewhere) → About c

pub about : (c : Call) → About c
about (open' ps) = others (λ m s S. still_open m s S ps) (λ a. refl)
about (line k x) = others (λ m s S. still_line m s S k x) (λ a. refl)
about (enter k) = others (λ m s S. still_enter m s S k) (λ a. refl)
about (scrap k) = others (λ m s S. still_scrap m s S k) (λ a. refl)
about (withdraw g) = others (λ m s S. still_withdraw m s S g) (λ a. refl)
about (entry g) = others (λ m s S. still_entry m s S g) (λ a. refl)
about (begin g cs) = begins g cs
about step' = steps
about (result k) = results k
about close = closes

-- a snapshot is its store and its activations
pub snapshot_is : (x : Snapshot) → at (store_of x) (activations_of x) ≡ x
snapshot_is (at S ts) = refl

-- ---- a run of formula g, begun when the formulas were fs

module _ (m : Meaning) (formed : Formed m) (fs : List Formula) (g : ℕ) (l : g < length fs) where
  abbrev e : Entry
  e = known m fs g

  -- plans that have those of the formulas fs
  abbrev pub Ok : Plans → Type 0
  Ok F = (h : ℕ) → h < length fs → F h ≡ planned m fs h

  pub plans_ok : (r : Reading) (s : State) → Agrees m r s → Later fs r.formulas → Ok (plan_at s)
  plans_ok r s a o h k = a.planning h ∙ ap (λ (gs : List Formula). planned m gs h) o.1 ∙ planned_later m fs o.0 h k

  pub entry_same : (r : Reading) (s : State) → Agrees m r s → Later fs r.formulas → entry_at s g ≡ known m fs g
  entry_same r s a o = a.entries g ∙ ap (λ (gs : List Formula). known m gs g) o.1 ∙ known_later m fs o.0 g l

  store_fits_lem : (r : Reading) (s : State) (S : List Sample) → Agrees m r s → Later fs r.formulas → needs e ≤ length S → store_fits s S g ≡ true
  store_fits_lem r s S a o h = ap (λ (x : Entry). leb (needs x) (length S)) (entry_same r s a o) ∙ le-leb (needs e) (length S) h

  -- how the run ends, from the outcome on codes; j steps come before a fault
  abbrev pub Ending : ℕ → Snapshot → Outcome ℕ → Type 0
  Ending j s (yields ys) = Finishes m Ok e.depth (needs e) e.steps s (size e.result.shape) (map (sample_of e.result.base) ys) × (length ys ≡ size e.result.shape) × InSet m.holds e.result.base ys
  Ending j s (faults x) = Fails m Ok e.depth 0 (needs e) e.steps j s (on_fault m formed x) × Caused m x

  pub begin_ends : AllTyped m fs → (S : List Sample) (cs : List ℕ) → length cs ≡ parameter_atoms e.parameters → codes_fit m.holds e.parameters cs ≡ true → needs e ≤ length S
      → (1 ≤ e.steps) × Ending (fault_step m fs g (arguments e.parameters (samples_for e.parameters cs))) (at (put S 0 (samples_for e.parameters cs)) (first_activation e g ∷ [])) (outcome m fs g cs)
  begin_ends typed S cs len right room = (
    let p = good.some_steps in omega arith,
    go (outcome m fs g cs) (eval m (on_samples m) fs g (arguments e.parameters xs))
        (subst (λ (ts : List (Array Sample)). SimO m formed e.result.base (outcome m fs g cs) (eval m (on_samples m) fs g ts)) (sym (args_samples e.parameters cs len))
        (sims_all m formed fs sounds g l (arguments e.parameters cs) (right_args m.holds e.parameters cs right) fits))
        (keeps_all m (on_codes m) fs sounds g l (arguments e.parameters cs) fits)
        (run_from m Ok g e (eval m (on_samples m) fs g) (fault_step m fs g) (planned m fs g) (λ F o. o g l) good S xs (length_samples e.parameters cs len) room),
  )
    where
      sounds : Sounds m fs
      sounds = typed_sounds m fs typed

      xs : List Sample
      xs = samples_for e.parameters cs

      good : Good m Ok e.depth e (eval m (on_samples m) fs g) (fault_step m fs g) g (planned m fs g)
      good = goods_all m Ok e.depth fs (λ F o h k. o h k) sounds g l

      fits : Fit e.parameters (arguments e.parameters cs)
      fits = fit_args e.parameters cs len

      go : (x : Outcome ℕ) (y : Outcome Sample) → SimO m formed e.result.base x y → LengthO (size e.result.shape) x
          → Story m Ok e.depth (needs e) e.steps (fault_step m fs g (arguments e.parameters xs)) (at (put S 0 xs) (first_activation e g ∷ [])) (size e.result.shape) y
          → Ending (fault_step m fs g (arguments e.parameters xs)) (at (put S 0 xs) (first_activation e g ∷ [])) x
      go (yields ys) y s k st = (rw s.1 at st, k, s.0)
      go (faults x) y s k st = (rw s.1 at st, own_caused m formed x s.0)

  -- ---- once it is done

  module _ (q : ℕ) (S₀ : List Sample) (ys : List ℕ) (room : needs e ≤ length S₀) (codes-are : codes_of (part S₀ q (size e.result.shape)) ≡ ys) (long : length ys ≡ size e.result.shape) where
    result_reply : (r : Reading) (s : State) (S : List Sample) (k : ℕ) → Agrees m r s → Later fs r.formulas → s.run ≡ finished g q → S ≡ S₀
        → serve m s S (result k) ≡ pick (leb (length ys) k) (reply (wrote ys) s S) (refusal s S 21)
    unfolding choose
    result_reply r s S k a o u v =
        let size_is : size (entry_at s g).result.shape ≡ length ys = ap (λ (x : Entry). size x.result.shape) (entry_same r s a o) ∙ sym long in
        let codes : codes_of (part S q (size (entry_at s g).result.shape)) ≡ ys =
        ap (λ (n : ℕ). codes_of (part S q n)) (size_is ∙ long) ∙ ap (λ (T : List Sample). codes_of (part T q (size e.result.shape))) v ∙ codes-are in
        ap (serve_result s S k) u
        ∙ ap (λ (b : Bool). choose b (choose (leb (size (entry_at s g).result.shape) k) (writes_result s S g q) (refusal s S 21)) (refusal s S 18)) (store_fits_lem r s S a o (rw v room))
        ∙ ap (λ (n : ℕ). choose (leb n k) (writes_result s S g q) (refusal s S 21)) size_is
        ∙ ap (λ (zs : List ℕ). choose (leb (length ys) k) (reply (wrote zs) s S) (refusal s S 21)) codes
        ∙ same_choice (leb (length ys) k)
      where
        same_choice : (b : Bool) → choose b (reply (wrote ys) s S) (refusal s S 21) ≡ pick b (reply (wrote ys) s S) (refusal s S 21)
        same_choice true = refl
        same_choice false = refl

    abbrev Done : List Event → Type 0
    Done h = (r : Reading) (s t : State) (S T : List Sample) → Leads m s S h t T → Agrees m r s → Later fs r.formulas → s.run ≡ finished g q → S ≡ S₀ → Yields ys (turns h)

    picked : (h : List Event) (r : Reading) (s t : State) (S T : List Sample) (k : ℕ) (b : Answer) (c : Bool) → b ≡ (pick c (reply (wrote ys) s S) (refusal s S 21)).answer
        → Leads m (pick c (reply (wrote ys) s S) (refusal s S 21)).state (pick c (reply (wrote ys) s S) (refusal s S 21)).store h t T
        → (Leads m s S h t T → Yields ys (turns h)) → (b ≡ pick c (wrote ys) (refused 21 None)) × Yields ys (turns h)
    picked h r s t S T k b true e w ih = (e, ih w)
    picked h r s t S T k b false e w ih = (e, ih w)

    done_once : (c : Call) (b : Answer) (h : List Event) → About c → Done h → Done (event c b ∷ h)
    done_once c b h steps ih r s t S T w a o u v =
        let z : serve m s S step' ≡ refusal s S 19 = ap (serve_step m s S) u in
        (w.0 ∙ ap (λ (x : Reply). x.answer) z, ih r s t S T (subst (λ (x : Reply). Leads m x.state x.store h t T) z w.1) a o u v)
    done_once c b h (begins n cs) ih r s t S T w a o u v =
        let z : serve m s S (begin n cs) ≡ refusal s S 16 = begin_open m s S n cs (ap no_run u) in
        (w.0 ∙ ap (λ (x : Reply). x.answer) z, ih r s t S T (subst (λ (x : Reply). Leads m x.state x.store h t T) z w.1) a o u v)
    done_once c b h (results k) ih r s t S T w a o u v =
        let z = result_reply r s S k a o u v in
        picked h r s t S T k b (leb (length ys) k) (w.0 ∙ ap (λ (x : Reply). x.answer) z) (subst (λ (x : Reply). Leads m x.state x.store h t T) z w.1) (λ w'. ih r s t S T w' a o u v)
    done_once c b h closes ih r s t S T w a o u v = w.0 ∙ ap (λ (x : Reply). x.answer) (close_open m s S (ap no_run u))
    done_once c b h (others still away) ih r s t S T w a o u v =
        let k = still m s S in
        subst (λ (x : Turn). Yields ys (x ∷ turns h)) (sym (away b))
        (ih (read_call r c b) (serve m s S c).state t (serve m s S c).store T w.1 (event_agrees m r s S c b w.0 a) (later_trans _ _ _ o (read_later r c b)) (k.0 ∙ u) (k.1 ∙ v))

    pub yields_phase : (h : List Event) → Done h
    yields_phase [] r s t S T w a o u v = tt
    yields_phase (event c b ∷ h) r s t S T w a o u v = done_once c b h (about c) (yields_phase h) r s t S T w a o u v

  -- ---- once it is faulted

  abbrev Broken : List Event → Type 0
  Broken h = (r : Reading) (s t : State) (S T : List Sample) → Leads m s S h t T → Agrees m r s → Later fs r.formulas → s.run ≡ broken g → Faulted (turns h)

  broken_once : (c : Call) (b : Answer) (h : List Event) → About c → Broken h → Broken (event c b ∷ h)
  broken_once c b h steps ih r s t S T w a o u =
      let z : serve m s S step' ≡ refusal s S 19 = ap (serve_step m s S) u in
      (w.0 ∙ ap (λ (x : Reply). x.answer) z, ih r s t S T (subst (λ (x : Reply). Leads m x.state x.store h t T) z w.1) a o u)
  broken_once c b h (begins n cs) ih r s t S T w a o u =
      let z : serve m s S (begin n cs) ≡ refusal s S 16 = begin_open m s S n cs (ap no_run u) in
      (w.0 ∙ ap (λ (x : Reply). x.answer) z, ih r s t S T (subst (λ (x : Reply). Leads m x.state x.store h t T) z w.1) a o u)
  broken_once c b h (results k) ih r s t S T w a o u =
      let z : serve m s S (result k) ≡ refusal s S 20 = ap (serve_result s S k) u in
      (w.0 ∙ ap (λ (x : Reply). x.answer) z, ih r s t S T (subst (λ (x : Reply). Leads m x.state x.store h t T) z w.1) a o u)
  broken_once c b h closes ih r s t S T w a o u = w.0 ∙ ap (λ (x : Reply). x.answer) (close_open m s S (ap no_run u))
  broken_once c b h (others still away) ih r s t S T w a o u =
      subst (λ (x : Turn). Faulted (x ∷ turns h)) (sym (away b))
      (ih (read_call r c b) (serve m s S c).state t (serve m s S c).store T w.1 (event_agrees m r s S c b w.0 a) (later_trans _ _ _ o (read_later r c b)) ((still m s S).0 ∙ u))

  pub faulted_phase : (h : List Event) → Broken h
  faulted_phase [] r s t S T w a o u = tt
  faulted_phase (event c b ∷ h) r s t S T w a o u = broken_once c b h (about c) (faulted_phase h) r s t S T w a o u

  -- ---- while it is at work

  -- a step of the run, from the snapshot that state and store have
  pub step_reply : (r : Reading) (s : State) (S : List Sample) (cur : Snapshot) → Agrees m r s → Later fs r.formulas → s.run ≡ going g (activations_of cur) → S ≡ store_of cur → needs e ≤ length (store_of cur)
      → serve m s S step' ≡ progressed s S g (step m (plan_at s) cur)
  unfolding choose
  step_reply r s S cur a o u v room =
      ap (serve_step m s S) u
      ∙ ap (λ (b : Bool). choose b (progressed s S g (step m (plan_at s) (at S (activations_of cur)))) (refusal s S 18)) (store_fits_lem r s S a o (rw v room))
      ∙ ap (λ (x : Snapshot). progressed s S g (step m (plan_at s) x)) (ap (λ (T : List Sample). at T (activations_of cur)) v ∙ snapshot_is cur)

  progressed_more : (s : State) (S : List Sample) (x : Snapshot) → progressed s S g (more x) ≡ reply goes_on (with_run s (going g (activations_of x))) (store_of x)
  progressed_more s S (at T ts) = refl

  module _ (last : Snapshot) (b : Answer) (end : Run) (U : List Sample) (after : List Turn → Type 0)
      (ends : (r : Reading) (s : State) (S : List Sample) → Agrees m r s → Later fs r.formulas → progressed s S g (step m (plan_at s) last) ≡ reply b (with_run s end) U)
      (rest : (h : List Event) (r : Reading) (s t : State) (T : List Sample) → Leads m s U h t T → Agrees m r s → Later fs r.formulas → s.run ≡ end → after (turns h)) where
    -- the run is at this snapshot, j steps before the last
    abbrev AtWork : List Event → Type 0
    AtWork h = (r : Reading) (s t : State) (S T : List Sample) (cur : Snapshot) (j : ℕ) → Leads m s S h t T → Agrees m r s → Later fs r.formulas
        → s.run ≡ going g (activations_of cur) → S ≡ store_of cur → needs e ≤ length (store_of cur) → Runs m Ok e.depth 0 (needs e) j cur last → Goes j b after (turns h)

    step_once : (c : Answer) (h : List Event) → AtWork h → AtWork (event step' c ∷ h)
    step_once c h ih r s t S T cur j w a o u v room stay =
        let z : serve m s S step' ≡ reply b (with_run s end) U = step_reply r s S cur a o u v room ∙ ends r s S a o in
        (w.0 ∙ ap (λ (x : Reply). x.answer) z, rest h r (with_run s end) t T (subst (λ (x : Reply). Leads m x.state x.store h t T) z w.1) (rerun m r s end a) o refl)
    step_once c h ih r s t S T cur j w a o u v room (move {n = n} {t = x} f same few runs) =
        let z : serve m s S step' ≡ reply goes_on (with_run s (going g (activations_of x))) (store_of x) =
        step_reply r s S cur a o u v room ∙ ap (progressed s S g) (f (plan_at s) (plans_ok r s a o)) ∙ progressed_more s S x in
        let long = same.long in (
          w.0 ∙ ap (λ (y : Reply). y.answer) z,
          ih r (with_run s (going g (activations_of x))) t (store_of x) T x n (subst (λ (y : Reply). Leads m y.state y.store h t T) z w.1) (rerun m r s _ a) o refl refl (omega arith) runs,
        )

    work_once : (c : Call) (d : Answer) (h : List Event) → About c → AtWork h → AtWork (event c d ∷ h)
    work_once c d h steps ih r s t S T cur j w a o u v room runs = step_once d h ih r s t S T cur j w a o u v room runs
    work_once c d h (begins n cs) ih r s t S T cur j w a o u v room runs =
        let z : serve m s S (begin n cs) ≡ refusal s S 16 = begin_open m s S n cs (ap no_run u) in
        (w.0 ∙ ap (λ (x : Reply). x.answer) z, ih r s t S T cur j (subst (λ (x : Reply). Leads m x.state x.store h t T) z w.1) a o u v room runs)
    work_once c d h (results k) ih r s t S T cur j w a o u v room runs =
        let z : serve m s S (result k) ≡ refusal s S 20 = ap (serve_result s S k) u in
        (w.0 ∙ ap (λ (x : Reply). x.answer) z, ih r s t S T cur j (subst (λ (x : Reply). Leads m x.state x.store h t T) z w.1) a o u v room runs)
    work_once c d h closes ih r s t S T cur j w a o u v room runs = w.0 ∙ ap (λ (x : Reply). x.answer) (close_open m s S (ap no_run u))
    work_once c d h (others still away) ih r s t S T cur j w a o u v room runs =
        let k = still m s S in
        subst (λ (x : Turn). Goes j b after (x ∷ turns h)) (sym (away d))
        (ih (read_call r c d) (serve m s S c).state t (serve m s S c).store T cur j w.1 (event_agrees m r s S c d w.0 a) (later_trans _ _ _ o (read_later r c d)) (k.0 ∙ u) (k.1 ∙ v) room runs)

    follow : (h : List Event) → AtWork h
    follow [] r s t S T cur j w a o u v room runs = tt
    follow (event c d ∷ h) r s t S T cur j w a o u v room runs = work_once c d h (about c) (follow h) r s t S T cur j w a o u v room runs

  progressed_fault : (s : State) (S : List Sample) (x : Snapshot) (y : Fault Sample) → progressed s S g (faulted x y) ≡ reply (fault y.cause y.formula y.line y.cell) (with_run s (broken g)) (store_of x)
  progressed_fault s S (at T ts) y = refl

  -- what follows a begin, from the way the run ends; with the steps before a fault
  abbrev pub Follows : ℕ → Outcome ℕ → List Turn → Type 0
  Follows j (yields ys) h = Goes (e.steps - 1) is_done (Yields ys) h
  Follows j (faults x) h = Goes j (fault x.cause x.formula x.line x.cell) Faulted h

  pub begun_follows : (j : ℕ) (x : Outcome ℕ) (h : List Event) (r : Reading) (s t : State) (S T : List Sample) (ts : List Activation) → Leads m s S h t T → Agrees m r s → Later fs r.formulas
      → s.run ≡ going g ts → needs e ≤ length S → Ending j (at S ts) x → Follows j x (turns h)
  begun_follows j (yields ys) h r s t S T ts w a o u room (f, long, inb) =
      follow f.last is_done (finished g f.place) (store_of f.last) (Yields ys)
      (λ r' s' S' a' o'. ap (progressed s' S' g) (f.ends (plan_at s') (plans_ok r' s' a' o')))
      (λ h' r' s' t' T' w' a' o' u'. yields_phase f.place (store_of f.last) ys room' (ap codes_of f.items ∙ codes_back e.result.base ys) long h' r' s' t' (store_of f.last) T' w' a' o' u' refl)
      h r s t S T (at S ts) (e.steps - 1) w a o u refl room f.runs
    where
      room' : needs e ≤ length (store_of f.last)
      room' = let k = (Rattle.remora.proofs.Running.runs_same f.runs).long in omega arith
  begun_follows j (faults x) h r s t S T ts w a o u room (f, own) =
      follow f.before (fault x.cause x.formula x.line x.cell) (broken g) (store_of f.after) Faulted
      (λ r' s' S' a' o'. ap (progressed s' S' g) (f.fails (plan_at s') (plans_ok r' s' a' o')) ∙ progressed_fault s' S' f.after (on_fault m formed x))
      (λ h' r' s' t' T' w' a' o' u'. faulted_phase h' r' s' t' (store_of f.after) T' w' a' o' u')
      h r s t S T (at S ts) j w a o u refl room f.runs
