-- How far reading has come: through the words of a line, and through the lines of a text.
use Rattle.std.proofs.Common.{◌≡◌, ℕ, ◌+◌, List, [], ◌∷◌, ◌++◌, map, length, string_bytes, sym, ap, ◌∙◌, append_assoc, append-nil}
use Rattle.std.specs.List.{AllByRecursion}
use Rattle.std.proofs.ByRecursion.{All-append, All-push}
use Rattle.std.proofs.lemmas.List.{length_push, map-append}
use Rattle.traces.specs.declared.reading.TraceError.{TraceError}
use Rattle.traces.specs.declared.reading.TraceError.TheVariants.{NoCount, NoMemory}
use Rattle.traces.specs.Readings.{Blames, Refuses}
use Rattle.traces.specs.Texts.{Count, Sound, FirstBad, code, codes, words}

-- Of these words some were read after the codes `start`, and the others are left.
pub record Gone (all left : List (List ℕ)) (start end : List ℕ) : Type 0 where
  pub seen : List (List ℕ)
  pub split : all ≡ seen ++ left
  pub good : AllByRecursion Count seen
  pub said : end ≡ start ++ map code seen

module _ {all left : List (List ℕ)} {start mid : List ℕ} (old : Gone all left start mid) (ws rest : List (List ℕ)) (cut : left ≡ ws ++ rest) where
  -- Some words more were read.
  pub gone_more : (end : List ℕ) → AllByRecursion Count ws → end ≡ mid ++ map code ws → Gone all rest start end
  gone_more end good said = record {
    seen = old.seen ++ ws;
    split = old.split ∙ ap (λ l. old.seen ++ l) cut ∙ sym (append_assoc old.seen ws rest);
    good = All-append Count old.seen ws old.good good;
    said = said ∙ ap (λ l. l ++ map code ws) old.said ∙ append_assoc start (map code old.seen) (map code ws) ∙ ap (λ l. start ++ l) (sym (map-append code old.seen ws));
  }

  -- The first of them that is no count is the first of all.
  pub gone_bad : (w : List ℕ) → FirstBad ws w → FirstBad all w
  gone_bad w bad =
      let before = bad.0 in
      let after = bad.1 in (
        old.seen ++ before,
        after ++ rest,
        old.split ∙ ap (λ l. old.seen ++ l) (cut ∙ ap (λ l. l ++ rest) bad.2 ∙ append_assoc before (w ∷ after) rest) ∙ sym (append_assoc old.seen before (w ∷ (after ++ rest))),
        All-append Count old.seen before old.good bad.3,
        bad.4,
      )

-- Of these lines so many were read, and the others are left.
pub record Through (all left : List (List ℕ)) (number : ℕ) (end : List ℕ) : Type 0 where
  pub seen : List (List ℕ)
  pub split : all ≡ seen ++ left
  pub good : AllByRecursion Sound seen
  pub said : end ≡ codes seen
  pub count : number ≡ length seen

-- The codes of one line more.
codes_push : (ls : List (List ℕ)) (l : List ℕ) → codes (ls ++ (l ∷ [])) ≡ codes ls ++ map code (words l)
codes_push [] l = append-nil (map code (words l))
codes_push (k ∷ ls) l = ap (λ r. map code (words k) ++ r) (codes_push ls l) ∙ sym (append_assoc (map code (words k)) (codes ls) (map code (words l)))

module _ {all left : List (List ℕ)} {number : ℕ} {mid : List ℕ} (old : Through all left number mid) (line : List ℕ) (rest : List (List ℕ)) (cut : left ≡ line ∷ rest) where
  -- One line more was read.
  pub through_more : (end : List ℕ) → Sound line → end ≡ mid ++ map code (words line) → Through all rest (number + 1) end
  through_more end good said = record {
    seen = old.seen ++ (line ∷ []);
    split = old.split ∙ ap (λ l. old.seen ++ l) cut ∙ sym (append_assoc old.seen (line ∷ []) rest);
    good = All-push Sound old.seen line old.good good;
    said = said ∙ ap (λ l. l ++ map code (words line)) old.said ∙ sym (codes_push old.seen line);
    count = ap (λ n. n + 1) old.count ∙ sym (length_push old.seen line);
  }

-- The error of some words is that of all.
pub blamed : {all left : List (List ℕ)} {start mid : List ℕ} → Gone all left start mid → (ws rest : List (List ℕ)) → left ≡ ws ++ rest → (number : ℕ) (e : TraceError) → Blames e number ws → Blames e number all
blamed old ws rest cut number (NoCount n w) h = (h.0, gone_bad old ws rest cut (string_bytes w) h.1)
blamed old ws rest cut number NoMemory h = tt

-- The error of the next line is that of the text.
pub refused : {all left : List (List ℕ)} {number : ℕ} {mid : List ℕ} → Through all left number mid → (line : List ℕ) (rest : List (List ℕ)) → left ≡ line ∷ rest → (e : TraceError) → Blames e (number + 1) (words line) → Refuses all e
refused old line rest cut (NoCount n w) h =
    (old.seen, line, rest, old.split ∙ ap (λ l. old.seen ++ l) cut, h.0 ∙ ap (λ k. k + 1) old.count, old.good, h.1)
refused old line rest cut NoMemory h = tt
