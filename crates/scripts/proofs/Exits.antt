-- What a reading answers from what its parts answered.
use Rattle.std.proofs.Common.{◌≡◌, ℕ, List, IsErrAnd, MatchOption, Some, None, Ok, Err, Option, Result, String, Global, string_bytes, sym, ap, ◌∙◌, subst, inl, inr}
use Rattle.std.proofs.lemmas.Option.{MatchOption-at_some, MatchOption-at_none}
use Rattle.std.proofs.lemmas.Result.{err_from_is_err_and}
use Rattle.scripts.specs.declared.errors.ReadError.{ReadError}
use Rattle.scripts.specs.Readings.{Fault, Said, fault_seen, Blames, Reads, FoundOr, and_then, or_fault}

-- What is blamed of a text is blamed of one that has each fault of it.
pub blames_like : {A B : Type 0} (o : Said A) (p : Said B) (e : ReadError) → ((f : Fault) → o ≡ Err f → p ≡ Err f) → Blames o e → Blames p e
blames_like o p e f (inl h) = inl h
blames_like o p e f (inr h) = inr (f (fault_seen e) h)

-- A fault of the first part is one of the whole.
pub then_wrong : {A B : Type 0} (o : Said A) (next : A → Said B) (f : Fault) → o ≡ Err f → and_then o next ≡ Err f
then_wrong o next f e = ap (λ p. and_then p next) e

-- What follows from a thing that is said.
pub then_said : {A B : Type 0} (o : Said A) (next : A → Said B) (a : A) → o ≡ Ok a → and_then o next ≡ next a
then_said o next a e = ap (λ p. and_then p next) e

-- A thing that is not there is a fault.
pub fault_none : {A : Type 0} (o : Option A) (f : Fault) → o ≡ None → or_fault o f ≡ Err f
fault_none o f e = ap (λ p. or_fault p f) e

-- A thing that is there is said.
pub fault_some : {A : Type 0} (o : Option A) (f : Fault) (a : A) → o ≡ Some a → or_fault o f ≡ Ok a
fault_some o f a e = ap (λ p. or_fault p f) e

-- A part that is blamed is blamed of the whole.
pub fails_first : {A B : Type 0} (o : Said A) (next : A → Said B) (e : ReadError) → Blames o e → Blames (and_then o next) e
fails_first o next e = blames_like o (and_then o next) e (then_wrong o next)

-- So is what follows from a part that is said.
pub fails_next : {A B : Type 0} (o : Said A) (next : A → Said B) (a : A) (e : ReadError) → o ≡ Ok a → Blames (next a) e → Blames (and_then o next) e
fails_next o next a e h = blames_like (next a) (and_then o next) e (λ f k. then_said o next a h ∙ k)

-- The whole is read where what follows from the first part is.
pub reads_next : {A M X : Type 0} (o : Said A) (next : A → Said M) (a : A) (view : X → M) (r : Result X ReadError) → o ≡ Ok a → Reads (next a) view r → Reads (and_then o next) view r
reads_next o next a view r h k = subst (λ s. Reads s view r) (sym (then_said o next a h)) k

-- The exit of a `?` tells the error of the part.
pub reads_break : {M X : Type 0} (said : Said M) (view : X → M) (r : Result X ReadError) (e : ReadError) → IsErrAnd r (λ y. y ≡ e) → Blames said e → Reads said view r
reads_break said view r e h k = let p = err_from_is_err_and r h in rw (p.1, p.2) k

-- What was looked for is read, or the fault of the word is told, where an error tells that fault.
pub found_reads : {X M : Type 0} (thing : Option X) (view : X → M) (o : Option M) (word : List ℕ) (f : Fault) (tells : String Global → ReadError → Type 0) (r : Result X ReadError)
    → MatchOption thing (o ≡ None) (λ x. o ≡ Some (view x))
    → ((text : String Global) (e : ReadError) → string_bytes text ≡ word → tells text e → fault_seen e ≡ f)
    → FoundOr thing word tells r → Reads (or_fault o f) view r
found_reads thing view o word f tells (Ok x) seen named h = fault_some o f (view x) (MatchOption-at_some _ _ x h seen)
found_reads thing view o word f tells (Err e) seen named (inl h) = inl h
found_reads thing view o word f tells (Err e) seen named (inr h) = inr (fault_none o f (MatchOption-at_none _ _ h.0 seen) ∙ ap Err (sym (named h.1 e h.2 h.3)))
