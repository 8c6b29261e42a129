-- What a reading answers: what the text says, or what is wrong with it, or want of memory.
use Rattle.std.specs.Prelude.{◌≡◌, ℕ, ◌⊎◌, List, [], ◌∷◌, Some, None, Ok, Err, IsErrAnd, String, string_bytes, Option, Result}
use Rattle.std.specs.declared.alloc.Global.{Global}
use Rattle.scripts.specs.declared.errors.ReadError.{ReadError}
use Rattle.scripts.specs.declared.errors.ReadError.TheVariants.{NoMemory, NoCommand, MissingAlgebra, MissingNumber, Surplus, NoAlgebra, NoNumber, NoList, NoBase, NoOperator, NoKind, NoType, NoField, Twice}

-- What is wrong with a text, and the word that is at fault.
pub data Fault : Type 0 where
  no_memory : Fault
  no_command : List ℕ → Fault
  missing_algebra : Fault
  missing_number : Fault
  surplus : List ℕ → Fault
  no_algebra : List ℕ → Fault
  no_number : List ℕ → Fault
  no_list : List ℕ → Fault
  no_base : List ℕ → Fault
  no_operator : List ℕ → Fault
  no_kind : List ℕ → Fault
  no_type : List ℕ → Fault
  no_field : List ℕ → Fault
  twice : List ℕ → Fault

-- The fault that an error tells.
abbrev pub fault_seen : ReadError → Fault
fault_seen NoMemory = no_memory
fault_seen (NoCommand w) = no_command (string_bytes w)
fault_seen MissingAlgebra = missing_algebra
fault_seen MissingNumber = missing_number
fault_seen (Surplus w) = surplus (string_bytes w)
fault_seen (NoAlgebra w) = no_algebra (string_bytes w)
fault_seen (NoNumber w) = no_number (string_bytes w)
fault_seen (NoList w) = no_list (string_bytes w)
fault_seen (NoBase w) = no_base (string_bytes w)
fault_seen (NoOperator w) = no_operator (string_bytes w)
fault_seen (NoKind w) = no_kind (string_bytes w)
fault_seen (NoType w) = no_type (string_bytes w)
fault_seen (NoField w) = no_field (string_bytes w)
fault_seen (Twice w) = twice (string_bytes w)

-- What a text says, or what is wrong with it.
abbrev pub Said : Type 0 → Type 0
Said M = Result M Fault

-- An error tells want of memory, or what is wrong with the text.
abbrev pub Blames : {M : Type 0} → Said M → ReadError → Type 0
Blames said e = (e ≡ NoMemory) ⊎ (said ≡ Err (fault_seen e))

-- A reading gives what the text says, seen through a view of the value, or tells an error.
abbrev pub Reads : {X M : Type 0} → Said M → (X → M) → Result X ReadError → Type 0
Reads said view (Ok x) = said ≡ Ok (view x)
Reads said view (Err e) = Blames said e

-- The view of a value as itself.
abbrev pub itself : {X : Type 0} → X → X
itself x = x

-- What follows from a thing that is said.
abbrev pub and_then : {A B : Type 0} → Said A → (A → Said B) → Said B
and_then (Err f) next = Err f
and_then (Ok a) next = next a

-- A thing that has to be there, or else a fault.
abbrev pub or_fault : {A : Type 0} → Option A → Fault → Said A
or_fault None f = Err f
or_fault (Some a) f = Ok a

-- One more item before others that are said.
abbrev pub before : {X : Type 0} → X → Said (List X) → Said (List X)
before x (Err f) = Err f
before x (Ok xs) = Ok (x ∷ xs)

-- What these words say, if each says a thing.
abbrev pub all_said : {M : Type 0} → (List ℕ → Said M) → List (List ℕ) → Said (List M)
all_said said [] = Ok []
all_said said (w ∷ ws) = and_then (said w) (λ m. before m (all_said said ws))

-- A thing that was looked for in a word is found, or it is not there, and an error tells of that word.
abbrev pub FoundOr : {X : Type 0} → Option X → List ℕ → (String Global → ReadError → Type 0) → Result X ReadError → Type 0
FoundOr thing word tells (Ok x) = thing ≡ Some x
FoundOr thing word tells (Err e) = (e ≡ NoMemory) ⊎ ((thing ≡ None) × (text : String Global) × (string_bytes text ≡ word) × tells text e)

-- What a value is read to, that may be left out: `absent` stands for one that is left out, and `reads` tells what is read of one that is there.
abbrev pub ReadsValue : {X : Type 0} → Said (Option (List ℕ)) → X → (List ℕ → Result X ReadError → Type 0) → Result X ReadError → Type 0
ReadsValue (Err f) absent reads r = IsErrAnd r (λ e. fault_seen e ≡ f)
ReadsValue (Ok None) absent reads r = r ≡ Ok absent
ReadsValue (Ok (Some v)) absent reads r = reads v r

-- So it is, unless memory is wanting.
abbrev pub ReadsIf : {X : Type 0} → Said (Option (List ℕ)) → X → (List ℕ → Result X ReadError → Type 0) → Result X ReadError → Type 0
ReadsIf said absent reads r = (r ≡ Err NoMemory) ⊎ ReadsValue said absent reads r
