-- The file of the tables, and what writing it answers. Assumes nothing.
use Rattle.std.proofs.Common.{◌≡◌, ℕ, ◌<◌, ◌≤◌, true, false, ltb, List, length, get_or, Ok, Err, Result, sym, refl, ap, ◌∙◌, subst, ap₂, ⊎_elim, arith}
use Rattle.std.proofs.lemmas.List.{get_or-take}
use Rattle.std.proofs.lemmas.Bool.{cases_Bool, ltb-true, ltb-false, lt-ltb, le-ltb, cond-true, cond-false}
use Rattle.labels.specs.declared.kind.LabelKind.{Ghosts}
use Rattle.history.specs.declared.graph.CommitGraph.{CommitGraph}
use Rattle.history.specs.declared.refusal.Refusal.{Refusal}
use Rattle.history.specs.declared.refusal.Refusal.TheVariants.{ResultTooShort}
use Rattle.history.specs.Graph.{history, Represents}
use Rattle.history.specs.History.{Commit, commit_of}
use Rattle.history.specs.Ids.{precedes}
use Rattle.history.specs.Model.{Model}
use Rattle.history.specs.Tables.{row_of}
use Rattle.history.proofs.Commits.{represented_length, represented_at}
use Rattle.graph_file.specs.Encoding.{FileOrder, layout_of}
use Rattle.graph_file.specs.Layout.{file_bytes}
use Rattle.graph_file.specs.Placing.{placed, extras, listed, Filed, Sized, file_size}
use Rattle.graph_file.specs.Writing.{Written, written, written_reply}
use Rattle.graph_file.proofs.DataRows.{length_rows, rows_wide}
use Rattle.graph_file.proofs.EdgeWords.{length_edge_words}
use Rattle.graph_file.proofs.Filing.{filed_length, ids_length, ids_wide}
use Rattle.graph_file.proofs.Fronts.{file_length_is}
use Rattle.graph_file.proofs.Placed.{placed_first}
use Rattle.graph_file.proofs.Sources.{length_listed, number_listed}
use Rattle.graph_file.proofs.FileParts.{file_bytes_length}

module _ {K L : Type 0} {kind : Ghosts K L} (g : CommitGraph K L kind) (h : List Commit) (order : List ℕ) (s : Filed g h order) (edges : ℕ) (words : edges ≡ extras (history g) (listed g)) where
  pub file_sized : Sized (layout_of h order) g.count edges
  file_sized =
      record {
        ids = ids_length g h order s;
        rows = length_rows h order order 0 ∙ filed_length g h order s;
        words = length_edge_words order h order ∙ sym (words ∙ ap₂ extras s.commits s.sorted);
      }

-- the tables of a represented history hold it in the file's order
module _ {K L : Type 0} {kind : Ghosts K L} (start : ℕ → ℕ → L) (grown : L → L → L) (m : Model) (g : CommitGraph K L kind) (s : Represents start grown m g) where
  id_listed : (i : ℕ) → i < g.count → (commit_of m.commits (get_or (listed g) i 0)).id ≡ (row_of g.rows.now (get_or g.order.now i 0)).id.bytes
  id_listed i lt =
      ap (λ n. (commit_of m.commits n).id) (get_or-take g.count g.order.now i 0 lt)
      ∙ ap (λ c. c.id) (represented_at start grown m g s (get_or g.order.now i 0) (g.within i lt))

  pub file_order : FileOrder m.commits (listed g)
  unfolding id_listed
  file_order =
      let short = length_listed g in
      let long = represented_length start grown m g s in
      record {
        long = short ∙ sym long;
        held = λ i lt.
            subst (λ n. n < length m.commits) (number_listed g i (get_or g.order.now i 0) (omega arith) refl) (omega (arith, g.within i (omega arith)));
        rising = λ i j l lt.
            subst (λ x. precedes x (commit_of m.commits (get_or (listed g) j 0)).id ≡ true) (sym (id_listed i (omega arith)))
            (subst (λ x. precedes (row_of g.rows.now (get_or g.order.now i 0)).id.bytes x ≡ true) (sym (id_listed j (omega arith))) (s.rising i j l (omega arith)));
        complete = λ a lt.
            let q = s.complete a (omega arith) in
            (q.0, omega (arith, q.1), sym (number_listed g q.0 (get_or g.order.now q.0 0) q.1 refl) ∙ q.2);
      }

  pub filed : Filed g m.commits (listed g)
  filed =
      record {
        commits = s.filled.commits;
        sorted = refl;
        levels = s.filled.levels;
        rising = s.rising;
        ordered = file_order;
        wide = s.filled.wellformed.wide;
      }

-- the reply says whether the file fits
pub ok_room : (x room needed : ℕ) → Ok x ≡ written_reply room needed → needed ≤ room
ok_room x room needed e =
    ⊎_elim
    (λ (t : ltb room needed ≡ true). let z : ◌≡◌ {A = ℕ} 0 1 = cc (e, cond-true (ltb room needed) (Err (ResultTooShort needed)) (Ok needed) t) in absurd (omega arith))
    (λ f. ltb-false room needed f)
    (cases_Bool (ltb room needed))

pub err_room : (x : Refusal) (room needed : ℕ) → Err x ≡ written_reply room needed → room < needed
err_room x room needed e =
    ⊎_elim
    (λ t. ltb-true room needed t)
    (λ (f : ltb room needed ≡ false). let z : ◌≡◌ {A = ℕ} 0 1 = cc (e, cond-false (ltb room needed) (Err (ResultTooShort needed)) (Ok needed) f) in absurd (omega arith))
    (cases_Bool (ltb room needed))

-- the buffer, by whether the file fits
stands : (bytes buffer : List ℕ) → length buffer < length bytes → buffer ≡ written bytes buffer
stands bytes buffer lt = sym (cond-true _ _ _ (lt-ltb (length buffer) (length bytes) lt))

filled : (bytes buffer buffer' : List ℕ) → length bytes ≤ length buffer → buffer' ≡ placed buffer 0 bytes → buffer' ≡ written bytes buffer
filled bytes buffer buffer' le p = p ∙ placed_first buffer bytes ∙ sym (cond-false _ _ _ (le-ltb (length buffer) (length bytes) le))

module _ {K L : Type 0} {kind : Ghosts K L} (start : ℕ → ℕ → L) (grown : L → L → L) (m : Model) (g : CommitGraph K L kind) (s : Represents start grown m g) (buffer : List ℕ) (edges needed : ℕ)
    (words : edges ≡ extras (history g) (listed g)) (size : needed ≡ file_size g.count edges) (r : Result ℕ Refusal) (reply : r ≡ written_reply (length buffer) needed) where
  long : needed ≡ length (file_bytes (layout_of m.commits (listed g)))
  long =
      let l = layout_of m.commits (listed g) in
      let q = filed start grown m g s in
      size ∙ sym (file_bytes_length l (ids_wide g m.commits (listed g) q) (rows_wide m.commits (listed g) q.ordered q.wide)
      ∙ file_length_is l g.count edges (file_sized g m.commits (listed g) q edges words))

  answered : (buffer' : List ℕ) → buffer' ≡ written (file_bytes (layout_of m.commits (listed g))) buffer → Written m.commits buffer buffer' r
  unfolding long
  answered buffer' p =
      record {
        order = listed g;
        ordered = file_order start grown m g s;
        reply = reply ∙ ap (written_reply (length buffer)) long;
        bytes = p;
      }

  pub refused_short : length buffer < needed → Written m.commits buffer buffer r
  unfolding long answered stands
  refused_short lt = answered buffer (stands (file_bytes (layout_of m.commits (listed g))) buffer (subst (λ n. length buffer < n) long lt))

  pub written_full : (buffer' : List ℕ) → needed ≤ length buffer → buffer' ≡ placed buffer 0 (file_bytes (layout_of m.commits (listed g))) → Written m.commits buffer buffer' r
  unfolding long answered filled
  written_full buffer' le p = answered buffer' (filled (file_bytes (layout_of m.commits (listed g))) buffer buffer' (subst (λ n. n ≤ length buffer) long le) p)
