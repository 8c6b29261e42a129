-- How a text is cut into pieces: by a split, and at the first match.
use Rattle.std.proofs.Common.{◌≡◌, ℕ, zero, suc, IfSome, rules, ◌+◌, ◌<◌, Bool, true, false, cond, not, eqb, List, [], ◌∷◌, ◌++◌, length, get_or, take, drop, Some, None, Option, sym, refl, ap, ◌∙◌, subst, arith, MatchOption}
use Rattle.std.specs.Char.{char_set_contains}
use Rattle.std.specs.Str.Pattern.{CutsPrefixes, FindsPrefixBy, HasPassingCharAt, FindsBy, FindsChar, IsSplitAtFirstMatch, HasCharAt}
use Rattle.std.specs.Str.{NoCharPasses}
use Rattle.std.specs.List.{AllByRecursion}
use Rattle.std.proofs.ByRecursion.{All-from_get_or}
use Rattle.std.proofs.Math.Bool.{true≢false}
use Rattle.std.proofs.lemmas.List.{take-append-drop}
use Rattle.std.proofs.lemmas.Bool.{ne_eqb}
use Rattle.std.proofs.lemmas.Bool.Decides.{nat_tests}
use Rattle.std.proofs.lemmas.Str.{encode_ascii, len_utf8_bounds, NoCharPasses-byte}
use Rattle.traces.specs.Texts.{pieces, grown, words_in}
use Rattle.scripts.specs.Words.{blank, words_of}
use Rattle.scripts.specs.Numbers.{comma, gap}

-- The pieces that a split has not given yet.
abbrev pub remaining : (ℕ → Bool) → Bool → List ℕ → List (List ℕ)
remaining t live text = cond live (pieces t text) []

-- No byte passes the test.
abbrev Whole : (ℕ → Bool) → List ℕ → Type 0
Whole t p = AllByRecursion (λ b. t b ≡ false) p

-- A text that no byte cuts is one piece.
pieces_none : (t : ℕ → Bool) (p : List ℕ) → Whole t p → pieces t p ≡ p ∷ []
pieces_none t [] h = refl
pieces_none t (b ∷ p) h = ap (λ v. cond v ([] ∷ pieces t p) (grown b (pieces t p))) h.0 ∙ ap (grown b) (pieces_none t p h.1)

-- The first byte that cuts ends the first piece.
pieces_cut : (t : ℕ → Bool) (p : List ℕ) (c : ℕ) (rest : List ℕ) → Whole t p → t c ≡ true → pieces t (p ++ (c ∷ rest)) ≡ p ∷ pieces t rest
pieces_cut t [] c rest h e = ap (λ v. cond v ([] ∷ pieces t rest) (grown c (pieces t rest))) e
pieces_cut t (b ∷ p) c rest h e =
    ap (λ v. cond v ([] ∷ pieces t (p ++ (c ∷ rest))) (grown b (pieces t (p ++ (c ∷ rest))))) h.0
    ∙ ap (grown b) (pieces_cut t p c rest h.1 e)

-- A test that only characters of one byte pass.
abbrev Plain : (ℕ → Bool) → Type 0
Plain t = (c : ℕ) → t c ≡ true → c < 128

module _ (t : ℕ → Bool) (plain : Plain t) where
  -- No byte of a text passes if no character does.
  whole : (w : List ℕ) → NoCharPasses t w → Whole t w
  whole w h = All-from_get_or (λ b. t b ≡ false) w 0 (λ i l. side (get_or w i 0) (NoCharPasses-byte t w i h l) (t (get_or w i 0)) refl)
    where
      side : (b : ℕ) → (b < 128 → t b ≡ false) → (v : Bool) → t b ≡ v → t b ≡ false
      side b f true e = f (plain b e)
      side b f false e = e

  -- The first match cuts the text there, and with none it is one piece.
  found : (w x rest : List ℕ) (live : Bool) (o : Option (ℕ × ℕ)) → FindsBy t w o → MatchOption o ((x ≡ w) × (live ≡ false)) (λ q. 0 < q.1 → (x ≡ take q.0 w) × (live ≡ true) × (rest ≡ drop q.1 w)) → pieces t w ≡ x ∷ remaining t live rest
  found w x rest live None f h = pieces_none t w (whole w f) ∙ rw (h.0, h.1) refl
  found w x rest live (Some q) f h =
      let c = f.1.0 in
      let at = f.1.2 in
      let some : 0 < q.1 = omega (arith, at.ends, (len_utf8_bounds c).0) in
      let split : drop q.0 w ≡ c ∷ drop q.1 w = at.split ∙ ap (λ e. e ++ drop q.1 w) (encode_ascii c (plain c f.1.1)) in
      let parted : w ≡ take q.0 w ++ (c ∷ drop q.1 w) = sym (take-append-drop q.0 w) ∙ ap (λ d. take q.0 w ++ d) split in
      ap (pieces t) parted ∙ pieces_cut t (take q.0 w) c (drop q.1 w) (whole (take q.0 w) f.0) f.1.1
      ∙ rw ((h some).0, (h some).1, (h some).2) refl

  -- A split that has not ended gives a piece, and the others are left.
  next_left : (F : List ℕ → Option (ℕ × ℕ) → Type 0) → ((w : List ℕ) (o : Option (ℕ × ℕ)) → F w o → FindsBy t w o) → (w x rest : List ℕ) (before live : Bool) → true ≡ before → IsSplitAtFirstMatch F w x live rest → remaining t before w ≡ x ∷ remaining t live rest
  next_left F finds w x rest before live e h = ap (λ v. remaining t v w) (sym e) ∙ found w x rest live h.1.0 (finds w h.1.0 h.1.1) h.1.2

-- Only characters of one byte part words.
blank_plain : Plain blank
blank_plain c e = grind (arith, nat_tests)

-- A text with no blank is one piece.
pub words_none : (w : List ℕ) → FindsBy blank w None → words_of w ≡ words_in (w ∷ [])
words_none w f = ap words_in (found blank blank_plain w w [] false None f (refl, refl))

-- The first blank ends the first piece.
pub words_cut : (w x rest : List ℕ) (i j : ℕ) → FindsBy blank w (Some (i, j)) → x ≡ take i w → rest ≡ drop j w → words_of w ≡ words_in (x ∷ pieces blank rest)
words_cut w x rest i j f e d = ap words_in (found blank blank_plain w x rest true (Some (i, j)) f (λ _. (e, refl, d)))

-- What follows a match is shorter than the text.
pub cut_falls : (t : ℕ → Bool) (w rest : List ℕ) (i j : ℕ) → FindsBy t w (Some (i, j)) → length rest + j ≡ length w → length rest < length w
cut_falls t w rest i j f e = omega (arith, f.1.2.ends, (len_utf8_bounds f.1.0).0)

-- The words among an empty piece and others are those of the others.
pub words_empty : (p : List ℕ) (ps : List (List ℕ)) → eqb (length p) 0 ≡ true → words_in (p ∷ ps) ≡ words_in ps
words_empty p ps e = ap (λ v. cond (not v) (p ∷ words_in ps) (words_in ps)) e

-- A piece that is not empty is a word.
pub words_filled : (p : List ℕ) (ps : List (List ℕ)) → eqb (length p) 0 ≡ false → words_in (p ∷ ps) ≡ p ∷ words_in ps
words_filled p ps e = ap (λ v. cond (not v) (p ∷ words_in ps) (words_in ps)) e

-- What finds a comma finds what parts numbers.
finds_comma : (c : ℕ) → c ≡ 44 → (w : List ℕ) (o : Option (ℕ × ℕ)) → FindsChar c w o → FindsBy comma w o
finds_comma c e w None f = subst (λ d. NoCharPasses (λ b. eqb b d) w) e f
finds_comma c e w (Some q) f = (subst (λ d. NoCharPasses (λ b. eqb b d) (take q.0 w)) e f.0, (44, refl, subst (λ d. HasCharAt d w q.0 q.1) e f.1))

-- Only a character of one byte parts numbers.
comma_plain : Plain comma
comma_plain c e = grind (arith, nat_tests)

-- A split at commas gives a piece, and the others are left.
pub next_number : (c : ℕ) → c ≡ 44 → (w x rest : List ℕ) (before live : Bool) → true ≡ before → IsSplitAtFirstMatch (FindsChar c) w x live rest → remaining comma before w ≡ x ∷ remaining comma live rest
next_number c e = next_left comma comma_plain (FindsChar c) (finds_comma c e)

-- Only characters of one byte part the numbers of a file.
gap_plain : Plain gap
gap_plain c e = grind (arith, nat_tests)

-- What a list of characters as a pattern finds.
abbrev pub FindsAmong : List ℕ → List ℕ → Option (ℕ × ℕ) → Type 0
FindsAmong p w o = (k : ℕ → Bool) → ((c : ℕ) → char_set_contains p c ≡ k c) → FindsBy k w o

-- A split at the characters that part the numbers of a file gives a piece, and the others are left.
pub next_gap : (p : List ℕ) → ((c : ℕ) → char_set_contains p c ≡ gap c) → (w x rest : List ℕ) (before live : Bool) → true ≡ before → IsSplitAtFirstMatch (FindsAmong p) w x live rest → remaining gap before w ≡ x ∷ remaining gap live rest
next_gap p tests = next_left gap gap_plain (FindsAmong p) (λ v o f. f gap tests)

-- A blank at the front of a text parts no word.
front_blank : (w : List ℕ) (j : ℕ) → HasPassingCharAt blank w 0 j → words_of w ≡ words_of (drop j w)
front_blank w j h =
    let c = h.0 in
    let rest = drop j w in
    let split : w ≡ c ∷ rest = h.2.split ∙ ap (λ e. e ++ rest) (encode_ascii c (blank_plain c h.1)) in
    ap words_of split ∙ ap (λ v. words_in (cond v ([] ∷ pieces blank rest) (grown c (pieces blank rest)))) h.1

-- What a list of characters as a pattern cuts off the front.
abbrev pub CutsAmong : List ℕ → List ℕ → Option ℕ → Type 0
CutsAmong p w o = (k : ℕ → Bool) → ((c : ℕ) → char_set_contains p c ≡ k c) → FindsPrefixBy k w o

-- So do all blanks that are cut off the front.
pub words_trimmed : (p : List ℕ) → ((c : ℕ) → char_set_contains p c ≡ blank c) → (w : List ℕ) (ns : List ℕ) (r : List ℕ) → CutsPrefixes (CutsAmong p) w ns r → words_of w ≡ words_of r
words_trimmed p tests w [] r h = ap words_of (sym h)
words_trimmed p tests w (n ∷ ns) r h = words_trimmed p tests w ns h.0 h.1 ∙ front_blank h.0 n (h.2 blank tests) ∙ ap words_of (sym h.3)

-- A text whose blanks at the front were cut off begins with none.
no_blank : (w : List ℕ) (o : Option ℕ) → FindsPrefixBy blank w o → IfSome o (λ n. n ≡ 0) → (j : ℕ) → HasPassingCharAt blank w 0 j → ⊥
no_blank w None f z j h =
    let plain : h.0 < 128 = blank_plain h.0 h.1 in
    let no : blank h.0 ≡ false = f h.0 (drop j w) (search rules) h.2.split in
    true≢false (sym h.1 ∙ no)
no_blank w (Some n) f z j h = omega (arith, f.2.ends, (len_utf8_bounds f.0).0, z)

-- So the text before its first blank is a word.
pub cut_filled : (w : List ℕ) (o : Option ℕ) → FindsPrefixBy blank w o → IfSome o (λ n. n ≡ 0) → (i j : ℕ) → HasPassingCharAt blank w i j → (x : List ℕ) → length x ≡ i → eqb (length x) 0 ≡ false
cut_filled w o f z zero j h x e = absurd (no_blank w o f z j h)
cut_filled w o f z (suc i) j h x e = ne_eqb (length x) 0 (λ k. omega arith)
