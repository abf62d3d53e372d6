-- The words of EDGE. Assumes nothing.
use Rattle.std.proofs.Common.{◌≡◌, ℕ, suc, ◌+◌, ◌-◌, ◌*◌, ◌<◌, ◌≤◌, List, [], ◌∷◌, ◌++◌, length, get_or, take, drop, sym, refl, ap, ◌∙◌, ap₂, arith}
use Rattle.std.specs.List.{flat_map}
use Rattle.std.proofs.lemmas.List.{length-append, append_assoc, take_more, take_all, take_rest, flat_map_more, length-drop}
use Rattle.std.proofs.lemmas.Bool.{lt-ltb, le-ltb, cond-true, cond-false}
use Rattle.history.specs.History.{Commit, parents_of}
use Rattle.graph_file.specs.Encoding.{position, positions, extra, closed, edges_from}
use Rattle.graph_file.specs.Layout.{edge_bytes}
use Rattle.graph_file.specs.declared.output.Output.{Output}
use Rattle.graph_file.specs.Outputs.{Puts}
use Rattle.graph_file.specs.Placing.{placed, extras}
use Rattle.graph_file.specs.Words.{word}
use Rattle.graph_file.proofs.Placed.{puts_next, length_joined}

pub extra_many : (ps : List ℕ) → 2 < length ps → extra ps ≡ length ps - 1
extra_many ps lt = cond-true _ _ _ (lt-ltb 2 (length ps) lt)

-- the parents from the second on, as a slice has them
abbrev pub rest_of : List ℕ → List ℕ
rest_of ps = take (length ps - 1) (drop 1 ps)

pub rest_length : (ps : List ℕ) → length (rest_of ps) ≡ length ps - 1
rest_length ps = ap length (take_rest ps 1) ∙ length-drop 1 ps

module _ (order : List ℕ) where
  pub length_closed : (ps : List ℕ) → length (closed order ps) ≡ length ps
  length_closed [] = refl
  length_closed (p ∷ []) = refl
  length_closed (p ∷ (q ∷ ps)) = ap suc (length_closed (q ∷ ps))

  pub closed_none : (rest : List ℕ) → length rest < 1 → closed order rest ≡ []
  closed_none [] lt = refl
  closed_none (p ∷ rest) lt = absurd (omega arith)

  -- the words are positions, and the last is marked
  closed_last : (others : List ℕ) (p : ℕ) → closed order (others ++ (p ∷ [])) ≡ positions order others ++ ((2147483648 + position order p) ∷ [])
  closed_last [] p = refl
  closed_last (q ∷ []) p = refl
  closed_last (q ∷ (r ∷ others)) p = ap (λ l. position order q ∷ l) (closed_last (r ∷ others) p)

  pub closed_split : (rest : List ℕ) → 0 < length rest →
      closed order rest ≡ positions order (take (length rest - 1) rest) ++ ((2147483648 + position order (get_or rest (length rest - 1) 0)) ∷ [])
  unfolding closed_last
  closed_split rest lt =
      let n = length rest - 1 in
      let whole : rest ≡ take n rest ++ (get_or rest n 0 ∷ []) = sym (take_all (n + 1) rest (omega arith)) ∙ take_more rest n 0 (omega arith) in
      ap (closed order) whole ∙ closed_last (take n rest) (get_or rest n 0)

  pub edges_many : (ps : List ℕ) → 2 < length ps → edges_from order ps ≡ closed order (rest_of ps)
  edges_many [] lt = absurd (omega arith)
  edges_many (p ∷ ps) lt = cond-true _ _ [] (lt-ltb 1 (length ps) (omega arith)) ∙ ap (closed order) (sym (take_rest (p ∷ ps) 1))

  pub edges_none : (ps : List ℕ) → length ps ≤ 2 → edges_from order ps ≡ []
  edges_none [] le = refl
  edges_none (p ∷ ps) le = cond-false _ (closed order ps) _ (le-ltb 1 (length ps) (omega arith))

  length_edges : (ps : List ℕ) → length (edges_from order ps) ≡ extra ps
  length_edges [] = refl
  length_edges (p ∷ []) = refl
  length_edges (p ∷ (q ∷ [])) = refl
  length_edges (p ∷ (q ∷ (r ∷ ps))) =
      let ms = p ∷ (q ∷ (r ∷ ps)) in
      ap length (edges_many ms (omega arith)) ∙ length_closed (rest_of ms) ∙ rest_length ms ∙ sym (extra_many ms (omega arith))

  module _ (h : List Commit) where
    pub length_edge_words : (ns : List ℕ) → length (flat_map (λ n. edges_from order (parents_of h n)) ns) ≡ extras h ns
    unfolding length_edges
    length_edge_words [] = refl
    length_edge_words (n ∷ ns) =
        length-append (edges_from order (parents_of h n)) (flat_map (λ m. edges_from order (parents_of h m)) ns)
        ∙ ap₂ (λ x y. x + y) (length_edges (parents_of h n)) (length_edge_words ns)

edge_bytes_append : (xs ys : List ℕ) → edge_bytes (xs ++ ys) ≡ edge_bytes xs ++ edge_bytes ys
edge_bytes_append [] ys = refl
edge_bytes_append (x ∷ xs) ys = ap (λ s. word x ++ s) (edge_bytes_append xs ys) ∙ sym (append_assoc (word x) (edge_bytes xs) (edge_bytes ys))

pub length_edge_bytes : (xs : List ℕ) → length (edge_bytes xs) ≡ 4 * length xs
length_edge_bytes xs = length_joined word 4 0 xs (λ _ _. refl)

-- a loop that puts one commit's words behind another's
module _ (f : ℕ → List ℕ) (o p : Output) (i : ℕ) (order : List ℕ) where
  pub edges_grow : (q : Output) (n : ℕ) → i < length order → n ≡ get_or order i 0 → Puts o p (edge_bytes (flat_map f (take i order))) → p.at ≡ o.at + 4 * length (flat_map f (take i order)) →
      Puts p q (edge_bytes (f n)) → o.at ≤ length o.bytes.now → Puts o q (edge_bytes (flat_map f (take (i + 1) order)))
  unfolding edge_bytes_append
  edges_grow q n lt is a here b le =
      let so_far = flat_map f (take i order) in
      puts_next o p q (edge_bytes so_far) (edge_bytes (f n)) a (omega (arith, length_edge_bytes so_far)) b le
      ∙ ap (placed o.bytes.now o.at) (sym (edge_bytes_append so_far (f n)))
      ∙ ap (λ s. placed o.bytes.now o.at (edge_bytes s)) (ap (λ m. so_far ++ f m) is ∙ flat_map_more f [] (take i order) (get_or order i 0) ∙ ap (flat_map f) (sym (take_more order i 0 lt)))

  pub edges_end : length order ≤ i → Puts o p (edge_bytes (flat_map f (take i order))) → Puts o p (edge_bytes (flat_map f order))
  edges_end le a = a ∙ ap (λ s. placed o.bytes.now o.at (edge_bytes (flat_map f s))) (take_all i order le)
