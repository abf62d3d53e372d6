-- Reading the parents of a commit, word by word. Assumes nothing.
use Rattle.std.proofs.Common.{◌≡◌, ℕ, suc, ◌+◌, ◌-◌, ◌*◌, ◌<◌, ◌≤◌, Bool, false, cond, ◌&&◌, eqb, ltb, leb, ◌⊎◌, List, [], ◌∷◌, ◌++◌, length, drop, Ok, Err, Result, sym, refl, ap, ◌∙◌, ap₂, ⊎_elim, append_assoc, add-one, arith}
use Rattle.std.proofs.lemmas.List.FromFn.{length-map-range_with_len, get_or-map-range_with_len}
use Rattle.std.proofs.lemmas.List.{at_drop_more, at_drop_all}
use Rattle.std.proofs.lemmas.Bool.{cond-true, cond-false, lt-ltb, le-ltb, le-leb, lt-leb, ne_eqb, eq-eqb, and_from, and_left, and_right}
use Rattle.graph_file.specs.Layout.{has_edges}
use Rattle.graph_file.specs.ParentWords.{no_parent, mark}
use Rattle.graph_reader.specs.declared.parts.Parts.{Parts}
use Rattle.graph_reader.specs.Bytes.{word_in}
use Rattle.graph_reader.specs.Parents.{led_by, listed_from, others_of}
use Rattle.graph_reader.specs.PartParents.{behind, part_row, part_words, list_at, others_at}

-- one more in front of what is read is one more at the end of what came before
pub behind_led : (xs : List ℕ) (w : ℕ) (r : Result (List ℕ) ℕ) → behind xs (led_by w r) ≡ behind (xs ++ (w ∷ [])) r
behind_led xs w (Ok ys) = ap Ok (sym (append_assoc xs (w ∷ []) ys))
behind_led xs w (Err place) = refl

pub length_words : (f : Parts) → length (part_words f) ≡ f.entries
length_words f = length-map-range_with_len (word_in f.edges.bytes.now) 0 f.entries

-- a list of EDGE, of which k words came before the one with the index `at`
module _ (f : Parts) (xs : List ℕ) (at k : ℕ) where
  abbrev from_words : ℕ → ℕ → List ℕ → Result (List ℕ) ℕ
  from_words = listed_from f.count f.rows.place f.edges.place

  abbrev pub list_from : Result (List ℕ) ℕ
  list_from = behind xs (from_words at k (drop at (part_words f)))

  pub list_ended : f.entries ≤ at → list_from ≡ Err (f.edges.place + 4 * at)
  list_ended le = ap (behind xs) (at_drop_all (from_words at k) (part_words f) at (omega (arith, length_words f)))

  long : (ws : List ℕ) → 63 ≤ k → from_words at k ws ≡ Err (f.edges.place + 4 * at)
  long [] le = refl
  long (w ∷ ws) le = cond-true _ _ _ (le-leb 63 k le)

  pub list_long : 63 ≤ k → list_from ≡ Err (f.edges.place + 4 * at)
  list_long le = ap (behind xs) (long (drop at (part_words f)) le)

  module _ (w : ℕ) (within : at < f.entries) (is : w ≡ word_in f.edges.bytes.now at) (short : k < 63) where
    abbrev rest : List ℕ
    rest = drop (at + 1) (part_words f)

    at_word :
        from_words at k (drop at (part_words f))
        ≡ cond (ltb w f.count) (led_by w (from_words (suc at) (suc k) rest))
        (cond (ltb 0 k && (leb mark w && ltb (w - mark) f.count)) (Ok ((w - mark) ∷ [])) (Err (f.edges.place + 4 * at)))
    at_word =
        at_drop_more (from_words at k) (part_words f) at 0 (omega (arith, length_words f))
        ∙ ap (λ v. from_words at k (v ∷ rest)) (get_or-map-range_with_len (word_in f.edges.bytes.now) 0 f.entries at at 0 within (omega arith) ∙ sym is)
        ∙ cond-false _ _ _ (lt-leb 63 k short)

    pub list_more : w < f.count → list_from ≡ behind (xs ++ (w ∷ [])) (from_words (at + 1) (k + 1) rest)
    list_more lt =
        ap (behind xs) (at_word ∙ cond-true _ _ _ (lt-ltb w f.count lt)) ∙ behind_led xs w (from_words (suc at) (suc k) rest)
        ∙ ap₂ (λ a j. behind (xs ++ (w ∷ [])) (from_words a j rest)) (sym (add-one at)) (sym (add-one k))

    pub list_closed : f.count ≤ w → 0 < k → mark ≤ w → w - mark < f.count → list_from ≡ Ok (xs ++ ((w - mark) ∷ []))
    list_closed ge pos marked lt =
        ap (behind xs) (at_word ∙ cond-false _ _ _ (le-ltb w f.count ge)
        ∙ cond-true _ _ _ (and_from _ _ (lt-ltb 0 k pos) (and_from _ _ (le-leb mark w marked) (lt-ltb (w - mark) f.count lt))))

    pub list_wrong : f.count ≤ w → (ltb 0 k && (leb mark w && ltb (w - mark) f.count)) ≡ false → list_from ≡ Err (f.edges.place + 4 * at)
    list_wrong ge fails = ap (behind xs) (at_word ∙ cond-false _ _ _ (le-ltb w f.count ge) ∙ cond-false _ _ _ fails)

-- the second parent word, where it names no parent itself
module _ (f : Parts) (p next second : ℕ) (is : second ≡ (part_row f p).second) (named : second ≡ no_parent → ⊥) (ge : f.count ≤ second) where
  abbrev points : Bool
  points = eqb second (mark + next) && has_edges (drop next (part_words f))

  at_second : others_at f p next ≡ cond points (list_at f next) (Err (f.rows.place + 36 * p + 24))
  at_second =
      ap (λ s. others_of f.count f.rows.place f.edges.place p next s (drop next (part_words f))) (sym is)
      ∙ cond-false _ _ _ (ne_eqb second no_parent named) ∙ cond-false _ _ _ (le-ltb second f.count ge)

  pub others_listed : second ≡ mark + next → next < f.entries → others_at f p next ≡ list_at f next
  others_listed e lt =
      at_second ∙ cond-true _ _ _ (and_from _ _ (eq-eqb second (mark + next) e) (at_drop_more has_edges (part_words f) next 0 (omega (arith, length_words f))))

  pub others_wrong : (second ≡ mark + next → ⊥) ⊎ (f.entries ≤ next) → others_at f p next ≡ Err (f.rows.place + 36 * p + 24)
  others_wrong w =
      at_second ∙ cond-false points _ _ (⊎_elim
      (λ ne. and_left _ _ (ne_eqb second (mark + next) ne))
      (λ le. and_right (eqb second (mark + next)) _ (at_drop_all has_edges (part_words f) next (omega (arith, length_words f))))
      w)
