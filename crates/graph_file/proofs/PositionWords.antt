-- The words of a commit's parents, by the parents' file positions. Assumes nothing.
use Rattle.std.proofs.Common.{◌≡◌, ℕ, suc, ◌-◌, cond, ltb, List, [], ◌∷◌, ◌++◌, length, sym, refl, ap, ◌∙◌, ap₂, arith}
use Rattle.std.proofs.lemmas.List.{length-map}
use Rattle.std.proofs.lemmas.Bool.{lt-ltb, cond-true}
use Rattle.std.specs.List.{flat_map}
use Rattle.history.specs.History.{Commit, parents_of}
use Rattle.graph_file.specs.Encoding.{position, positions, extra, closed, edges_from, first_word, second_word}
use Rattle.graph_file.specs.ParentWords.{closed_words, edge_words, first_parent_word, second_parent_word}
use Rattle.graph_file.proofs.EdgeWords.{extra_many}

length_closed_words : (ps : List ℕ) → length (closed_words ps) ≡ length ps
length_closed_words [] = refl
length_closed_words (p ∷ []) = refl
length_closed_words (p ∷ (q ∷ ps)) = ap suc (length_closed_words (q ∷ ps))

-- how many words of EDGE there are
pub length_edges : (ps : List ℕ) → length (edge_words ps) ≡ extra ps
unfolding length_closed_words
length_edges [] = refl
length_edges (p ∷ []) = refl
length_edges (p ∷ (q ∷ [])) = refl
length_edges (p ∷ (q ∷ (r ∷ ps))) =
    let qs = q ∷ (r ∷ ps) in
    ap length (cond-true (ltb 1 (length qs)) (closed_words qs) [] (lt-ltb 1 (length qs) (omega arith)))
    ∙ length_closed_words qs ∙ (let z : length qs ≡ length (p ∷ qs) - 1 = omega arith in z) ∙ sym (extra_many (p ∷ qs) (omega arith))

module _ (order : List ℕ) where
  pub extra_positions : (ps : List ℕ) → extra (positions order ps) ≡ extra ps
  extra_positions ps = ap (λ k. cond (ltb 2 k) (k - 1) 0) (length-map ps (position order))

  pub closed_by_positions : (ps : List ℕ) → closed order ps ≡ closed_words (positions order ps)
  closed_by_positions [] = refl
  closed_by_positions (p ∷ []) = refl
  closed_by_positions (p ∷ (q ∷ ps)) = ap (λ l. position order p ∷ l) (closed_by_positions (q ∷ ps))

  pub edges_by_positions : (ps : List ℕ) → edges_from order ps ≡ edge_words (positions order ps)
  edges_by_positions [] = refl
  edges_by_positions (p ∷ ps) = ap₂ (λ k l. cond (ltb 1 k) l []) (sym (length-map ps (position order))) (closed_by_positions ps)

  pub first_by_positions : (ps : List ℕ) → first_word order ps ≡ first_parent_word (positions order ps)
  first_by_positions [] = refl
  first_by_positions (p ∷ ps) = refl

  pub second_by_positions : (start : ℕ) (ps : List ℕ) → second_word order start ps ≡ second_parent_word start (positions order ps)
  second_by_positions start [] = refl
  second_by_positions start (p ∷ []) = refl
  second_by_positions start (p ∷ (q ∷ [])) = refl
  second_by_positions start (p ∷ (q ∷ (r ∷ ps))) = refl

  pub all_edges_by_positions : (h : List Commit) (ns : List ℕ) → flat_map (λ n. edges_from order (parents_of h n)) ns ≡ flat_map (λ n. edge_words (positions order (parents_of h n))) ns
  all_edges_by_positions h [] = refl
  all_edges_by_positions h (n ∷ ns) = ap₂ (λ a b. a ++ b) (edges_by_positions (parents_of h n)) (all_edges_by_positions h ns)
