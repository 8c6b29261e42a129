-- The pieces of a text, as they are cut off one by one.
use Rattle.std.proofs.Common.{◌≡◌, ℕ, ◌<◌, Bool, true, false, cond, eqb, List, [], ◌∷◌, ◌++◌, get_or, take, drop, Some, None, Option, sym, refl, ap, ◌∙◌, subst, arith, MatchOption, Bor}
use Rattle.std.specs.Char.{char_set_contains}
use Rattle.std.specs.Str.Pattern.{FindsBy, FindsChar, IsSplitAtFirstMatch, HasCharAt}
use Rattle.std.specs.Str.{NoCharPasses}
use Rattle.std.specs.Str.Iter.{split_text, split_has_more, split_pattern, split_steps}
use Rattle.std.specs.declared.str.Split.{Split}
use Rattle.std.specs.List.{AllByRecursion}
use Rattle.std.proofs.lemmas.List.Elements.{filter-append}
use Rattle.std.proofs.ByRecursion.{All-from_get_or}
use Rattle.std.proofs.lemmas.List.{take-append-drop}
use Rattle.std.proofs.lemmas.Bool.Decides.{nat_tests}
use Rattle.std.proofs.lemmas.Str.{encode_ascii, len_utf8_bounds, NoCharPasses-byte}
use Rattle.traces.specs.Texts.{pieces, grown, parts, ends, filled, words_in}

-- The pieces that a split has not given yet.
abbrev pub remaining : (ℕ → Bool) → Bool → List ℕ → List (List ℕ)
remaining t live text = cond live (pieces t text) []

-- No byte passes the test.
abbrev Whole : (ℕ → Bool) → List ℕ → Type 0
Whole t p = AllByRecursion (λ b. t b ≡ false) p

-- A text that no byte cuts is one piece.
pieces_none : (t : ℕ → Bool) (p : List ℕ) → Whole t p → pieces t p ≡ p ∷ []
pieces_none t [] h = refl
pieces_none t (b ∷ p) h = ap (λ v. cond v ([] ∷ pieces t p) (grown b (pieces t p))) h.0 ∙ ap (grown b) (pieces_none t p h.1)

-- The first byte that cuts ends the first piece.
pieces_cut : (t : ℕ → Bool) (p : List ℕ) (c : ℕ) (rest : List ℕ) → Whole t p → t c ≡ true → pieces t (p ++ (c ∷ rest)) ≡ p ∷ pieces t rest
pieces_cut t [] c rest h e = ap (λ v. cond v ([] ∷ pieces t rest) (grown c (pieces t rest))) e
pieces_cut t (b ∷ p) c rest h e =
    ap (λ v. cond v ([] ∷ pieces t (p ++ (c ∷ rest))) (grown b (pieces t (p ++ (c ∷ rest))))) h.0
    ∙ ap (grown b) (pieces_cut t p c rest h.1 e)

-- A test that only characters of one byte pass.
abbrev Plain : (ℕ → Bool) → Type 0
Plain t = (c : ℕ) → t c ≡ true → c < 128

module _ (t : ℕ → Bool) (plain : Plain t) where
  -- No byte of a text passes if no character does.
  whole : (w : List ℕ) → NoCharPasses t w → Whole t w
  whole w h = All-from_get_or (λ b. t b ≡ false) w 0 (λ i l. side (get_or w i 0) (NoCharPasses-byte t w i h l) (t (get_or w i 0)) refl)
    where
      side : (b : ℕ) → (b < 128 → t b ≡ false) → (v : Bool) → t b ≡ v → t b ≡ false
      side b f true e = f (plain b e)
      side b f false e = e

  -- The first match cuts the text there, and with none it is one piece.
  found : (w x rest : List ℕ) (live : Bool) (o : Option (ℕ × ℕ)) → FindsBy t w o → MatchOption o ((x ≡ w) × (live ≡ false)) (λ q. 0 < q.1 → (x ≡ take q.0 w) × (live ≡ true) × (rest ≡ drop q.1 w)) → pieces t w ≡ x ∷ remaining t live rest
  found w x rest live None f h = pieces_none t w (whole w f) ∙ rw (h.0, h.1) refl
  found w x rest live (Some q) f h =
      let c = f.1.0 in
      let at = f.1.2 in
      let some : 0 < q.1 = omega (arith, at.ends, (len_utf8_bounds c).0) in
      let split : drop q.0 w ≡ c ∷ drop q.1 w = at.split ∙ ap (λ e. e ++ drop q.1 w) (encode_ascii c (plain c f.1.1)) in
      let parted : w ≡ take q.0 w ++ (c ∷ drop q.1 w) = sym (take-append-drop q.0 w) ∙ ap (λ d. take q.0 w ++ d) split in
      ap (pieces t) parted ∙ pieces_cut t (take q.0 w) c (drop q.1 w) (whole (take q.0 w) f.0) f.1.1
      ∙ rw ((h some).0, (h some).1, (h some).2) refl

  -- The next piece, and those that are left.
  next_piece : (F : List ℕ → Option (ℕ × ℕ) → Type 0) → ((w : List ℕ) (o : Option (ℕ × ℕ)) → F w o → FindsBy t w o) → (w x rest : List ℕ) (live : Bool) → IsSplitAtFirstMatch F w x live rest → pieces t w ≡ x ∷ remaining t live rest
  next_piece F finds w x rest live h = found w x rest live h.1.0 (finds w h.1.0 h.1.1) h.1.2

  -- The same of a split that has not ended: it gives a piece, and the others are left.
  next_left : (F : List ℕ → Option (ℕ × ℕ) → Type 0) → ((w : List ℕ) (o : Option (ℕ × ℕ)) → F w o → FindsBy t w o) → (w x rest : List ℕ) (before live : Bool) → true ≡ before → IsSplitAtFirstMatch F w x live rest → remaining t before w ≡ x ∷ remaining t live rest
  next_left F finds w x rest before live e h = ap (λ v. remaining t v w) (sym e) ∙ next_piece F finds w x rest live h

-- Only characters of one byte part words.
parts_plain : Plain parts
parts_plain c e = grind (arith, nat_tests)

-- Only a character of one byte ends a line.
ends_plain : Plain ends
ends_plain c e = grind (arith, nat_tests)

-- What a list of characters as a pattern finds.
abbrev FindsAmong : List ℕ → List ℕ → Option (ℕ × ℕ) → Type 0
FindsAmong p w o = (k : ℕ → Bool) → ((c : ℕ) → char_set_contains p c ≡ k c) → FindsBy k w o

-- A list of characters as a pattern has the tests that another has.
abbrev KeepsTests : List ℕ → List ℕ → Type 0
KeepsTests p q = (k : ℕ → Bool) → ((c : ℕ) → char_set_contains p c ≡ k c) → (c : ℕ) → char_set_contains q c ≡ k c

-- A split at the characters that part words has not given these words yet.
abbrev pub words_left : Split (List ℕ) → List (List ℕ)
words_left s = words_in (remaining parts (split_has_more s) (split_text s))

-- A split is at the characters that part words.
abbrev pub AtParts : Split (List ℕ) → Type 0
AtParts s = (c : ℕ) → char_set_contains (split_pattern s) c ≡ parts c

-- Such a split gives a piece, and the words of the others are left.
pub next_words : (s t : Split (List ℕ)) (x : Bor (List ℕ)) → AtParts s → split_steps FindsAmong KeepsTests s (Some x) t → (words_left s ≡ words_in (x.now ∷ []) ++ words_left t) × AtParts t
next_words s t x tests h = (
  ap words_in (next_left parts parts_plain (FindsAmong (split_pattern s)) (λ v o f. f parts tests) (split_text s) x.now (split_text t) (split_has_more s) (split_has_more t) h.0 h.1.1)
      ∙ filter-append filled (x.now ∷ []) (remaining parts (split_has_more t) (split_text t)),
  h.1.0 parts tests,
)

-- What finds a newline finds what ends a line.
finds_end : (c : ℕ) → c ≡ 10 → (w : List ℕ) (o : Option (ℕ × ℕ)) → FindsChar c w o → FindsBy ends w o
finds_end c e w None f = subst (λ d. NoCharPasses (λ b. eqb b d) w) e f
finds_end c e w (Some q) f = (subst (λ d. NoCharPasses (λ b. eqb b d) (take q.0 w)) e f.0, (10, refl, subst (λ d. HasCharAt d w q.0 q.1) e f.1))

-- A split at newlines has not given these lines yet.
abbrev pub lines_left : Split ℕ → List (List ℕ)
lines_left s = remaining ends (split_has_more s) (split_text s)

-- Such a split gives a line, and the others are left.
pub next_line : (s t : Split ℕ) (x : Bor (List ℕ)) → split_pattern s ≡ 10 → split_steps FindsChar (λ c d. d ≡ c) s (Some x) t → (lines_left s ≡ x.now ∷ lines_left t) × (split_pattern t ≡ 10)
next_line s t x e h = (
  next_left ends ends_plain (FindsChar (split_pattern s)) (finds_end (split_pattern s) e) (split_text s) x.now (split_text t) (split_has_more s) (split_has_more t) h.0 h.1.1,
  h.1.0 ∙ e,
)
