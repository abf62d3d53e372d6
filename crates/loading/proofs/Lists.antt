-- Equal commits, and what stands behind a place. Assumes nothing.
use Rattle.std.proofs.Common.{◌≡◌, ℕ, ◌+◌, ◌-◌, ◌<◌, ◌≤◌, List, length, get_or, drop, sym, refl, ap, ◌∙◌, arith}
use Rattle.std.proofs.lemmas.List.{drop-drop}
use Rattle.graph_reader.specs.FileCommits.{renumbered}
use Rattle.graph_reader.proofs.Renumbering.{same_map}
use Rattle.history.specs.History.{Commit}

-- what stands behind a place stands behind each later one
pub drop_later : {X : Type 0} (m n : ℕ) (xs ys : List X) → m ≤ n → drop m xs ≡ drop m ys → drop n xs ≡ drop n ys
drop_later m n xs ys le e =
    let is : m + (n - m) ≡ n = omega arith in
    ap (λ k. drop k xs) (sym is) ∙ sym (drop-drop (n - m) m xs) ∙ ap (drop (n - m)) e ∙ drop-drop (n - m) m ys ∙ ap (λ k. drop k ys) is

pub same_commit : {i j t u ps qs : List ℕ} {d e : ℕ} → i ≡ j → t ≡ u → d ≡ e → ps ≡ qs →
    ◌≡◌ {A = Commit} record { id = i; tree = t; date = d; parents = ps } record { id = j; tree = u; date = e; parents = qs }
same_commit a b c d = cc

-- a commit with its parents by numbers that are the same
pub same_numbers : (a b : List ℕ) (c : Commit) → ((j : ℕ) → j < length c.parents → get_or a (get_or c.parents j 0) 0 ≡ get_or b (get_or c.parents j 0) 0) →
    renumbered a c ≡ renumbered b c
same_numbers a b c same = same_commit refl refl refl (same_map (λ q. get_or a q 0) (λ q. get_or b q 0) c.parents same)
