use Rattle.std.proofs.Common.{◌≡◌, ℕ, ◌+◌, ◌<◌, ◌≤◌, [], ◌∷◌, ◌++◌, length, get_or, take, drop, set, sym, refl, ap, ◌∙◌, subst, arith, rules}
use Rattle.std.proofs.lemmas.List.{length-set, take-set, drop-set-lt}
use Rattle.std.proofs.lemmas.List.Edits.{length-paste, drop-paste}
use Rattle.history.specs.Computed.{Computed}
use Rattle.history.specs.Graph.{history}
use Rattle.history.specs.History.{Proper}
use Rattle.history.specs.Model.{plus}
use Rattle.history.specs.Room.{given}
use Rattle.history.specs.Tables.{Earlier, commits}
use Rattle.history.proofs.Adding.{proper_of, proper_push, wellformed_push}
use Rattle.history.proofs.Commits.{filled_length, filled_with, graph_length}
use Rattle.history.proofs.Finding.{none_absent}
use Rattle.history.proofs.Lists.{turned_order, turned_moved, turned_rest, turned_long}
use Rattle.history.proofs.Pushes.{behind, copied, new_row, front_stands, commits_stand, commits_push, rows_stand, history_stands, computed_stands, inside_push, earlier_stands, earlier_push, bounded_push, computed_push, within_behind, within_push, complete_push, rising_push}
use Rattle.history.proofs.graph.CommitGraph.append_at.Goals as goal

pub invariant_of-self-4 : goal.invariant_of-self-4
invariant_of-self-4 g c =
    let b = c.args.self.now in
    let rows = b.rows.now in
    let ps = b.parents.now in
    let list = c.args.new.now.parents.now in
    let n = b.count in
    let used = b.used in
    let row = new_row c.args.new.now c.growth-growth.result used in
    let room : n < length rows = omega arith in
    let fits : used + length list ≤ length ps = omega arith in
    let put = copied used ps list c.copy_from_slice.new.self c.copy_from_slice.ensures.after (omega arith) in
    let k = g.K.LabelKind in
    let growth = c.growth-growth.result in
    let h = history b in
    let commit = given c.args.new.now in
    let history_is : commits (set rows n row) _ (n + 1) ≡ h ++ (commit ∷ []) =
    ap (λ p. commits (set rows n row) p (n + 1)) put ∙ commits_push rows n row room ps used list fits b.inside refl refl in
    record {
      rowed = omega (arith, length-set rows n row);
      labelled = omega (arith, length-set b.labels.now n c.growth-growth.result.label);
      listed = omega (arith, length-set b.order.now n n);
      few = omega arith;
      parented = omega (arith, ap length put ∙ length-paste ps used list (length list) fits (omega arith));
      short = omega arith;
      inside = inside_push rows n row room ps used list fits b.inside refl refl;
      earlier = subst (λ p. Earlier (set rows n row) p (n + 1)) (sym put) (earlier_push rows n row room ps used list fits b.inside refl refl b.earlier c.requires.fits.held);
      bounded = bounded_push rows n row room ps used list fits b.inside refl refl b.bounded c.growth-growth.ensures.bounded.0 c.growth-growth.ensures.bounded.1;
      within = within_behind b.order.now n (omega arith) b.within;
      unused = λ e. absurd (omega arith);
      proper = subst Proper (sym history_is) (proper_push h commit b.proper c.requires.fits.dated c.requires.fits.few
          (λ j lt. omega (arith, graph_length b, c.requires.fits.held j lt)) (search rules) (search rules));
      computed = subst (λ x. Computed k.start k.grown x (set rows n row) (set b.labels.now n growth.label) (n + 1) (used + length list)) (sym history_is)
          (computed_push b.computed commit row growth.label room (omega arith) c.growth-growth.ensures.level c.growth-growth.ensures.corrected c.growth-growth.ensures.label);
    }

pub invariant_of-self-5-clause-within : goal.invariant_of-self-5-clause-within
invariant_of-self-5-clause-within g c =
    let b = c.args.self.now in
    let rows = b.rows.now in
    let order = b.order.now in
    let n = b.count in
    let place = c.args.place in
    let rot = c.rotate_right.new.self in
    let row = new_row c.args.new.now c.growth-growth.result b.used in
    let room : n < length order = omega arith in
    let ruled = c.rotate_right.ensures in
    within_push rows order (turned_order order place n c.requires.among room rot ruled.by_index ruled.len) n place row (omega arith) c.requires.among b.within
    (turned_moved order place n c.requires.among room rot ruled.by_index ruled.len)

pub returns-clause-tables : goal.returns-clause-tables
returns-clause-tables g c =
    let b = c.args.self.now in
    let rows = b.rows.now in
    let ls = b.labels.now in
    let order = b.order.now in
    let ps = b.parents.now in
    let list = c.args.new.now.parents.now in
    let n = b.count in
    let used = b.used in
    let label = c.growth-growth.result.label in
    let row = new_row c.args.new.now c.growth-growth.result used in
    let room : n < length order = omega arith in
    let fits : used + length list ≤ length ps = omega arith in
    let put = copied used ps list c.copy_from_slice.new.self c.copy_from_slice.ensures.after (omega arith) in
    record {
      count = refl;
      used = refl;
      rows = record { before = take-set rows n row; behind = drop-set-lt (n + 1) rows n row (omega arith) };
      labels = record { before = take-set ls n label; behind = drop-set-lt (n + 1) ls n label (omega arith) };
      order = record { before = refl; behind = turned_rest order c.args.place n c.requires.among room c.rotate_right.new.self c.rotate_right.ensures.by_index c.rotate_right.ensures.len };
      parents = record {
        before = ap (take used) put ∙ front_stands ps used list fits;
        behind = ap (drop (used + length list)) put ∙ drop-paste ps used list (length list) (omega arith) (omega arith);
      };
    }

pub returns-clause-filled : goal.returns-clause-filled
returns-clause-filled g c = λ m s fresh.
    let k = g.K.LabelKind in
    let b = c.args.self.now in
    let rows = b.rows.now in
    let ls = b.labels.now in
    let ps = b.parents.now in
    let list = c.args.new.now.parents.now in
    let n = b.count in
    let used = b.used in
    let growth = c.growth-growth.result in
    let row = new_row c.args.new.now c.growth-growth.result used in
    let room : n < length rows = omega arith in
    let place_room : n < length b.order.now = omega arith in
    let fits : used + length list ≤ length ps = omega arith in
    let put = copied used ps list c.copy_from_slice.new.self c.copy_from_slice.ensures.after (omega arith) in
    let h = m.commits in
    let commit = given c.args.new.now in
    let long = filled_length k.start k.grown m b s in
    let proper = proper_push h commit (proper_of s.wellformed) c.requires.fits.dated c.requires.fits.few (λ j lt. omega (arith, c.requires.fits.held j lt)) (search rules) (search rules) in
    filled_with (plus m commit) _
    (ap (λ p. commits (set rows n row) p (n + 1)) put ∙ commits_push rows n row room ps used list fits b.inside refl refl ∙ ap (λ x. x ++ (commit ∷ [])) s.commits)
    (wellformed_push h commit s.wellformed (none_absent h 0 commit.id fresh) proper)
    (omega (arith, length-set rows n row, length-set ls n growth.label, turned_long b.order.now c.args.place n c.requires.among place_room c.rotate_right.new.self c.rotate_right.ensures.by_index c.rotate_right.ensures.len, s.room))
    (omega (arith, ap length put ∙ length-paste ps used list (length list) fits (omega arith), s.parent_room))

pub returns-clause-order : goal.returns-clause-order
returns-clause-order g c =
    let b = c.args.self.now in
    let rows = b.rows.now in
    let order = b.order.now in
    let n = b.count in
    let place = c.args.place in
    let rot = c.rotate_right.new.self in
    let row = new_row c.args.new.now c.growth-growth.result b.used in
    let room : n < length rows = omega arith in
    let place_room : n < length order = omega arith in
    let ruled = c.rotate_right.ensures in
    let next = turned_order order place n c.requires.among place_room rot ruled.by_index ruled.len in
    let moved = turned_moved order place n c.requires.among place_room rot ruled.by_index ruled.len in
    record {
      complete = complete_push rows order next n place row room c.requires.among b.within moved;
      rising = λ rising splits fresh. rising_push rows order next n place row room c.requires.among b.within moved rising splits fresh;
    }

-- with the parents written, but no commit that lists them
pub invariant_of-self-clause-earlier : goal.invariant_of-self-clause-earlier
invariant_of-self-clause-earlier g c =
    let b = c.args.self.now in
    let list = c.args.new.now.parents.now in
    let put = copied b.used b.parents.now list c.copy_from_slice.new.self c.copy_from_slice.ensures.after (omega arith) in
    subst (λ p. Earlier b.rows.now p b.count) (sym put) (earlier_stands b.rows.now b.count b.parents.now b.used list (omega arith) b.inside b.earlier)

pub invariant_of-self-clause-proper : goal.invariant_of-self-clause-proper
invariant_of-self-clause-proper g c =
    let b = c.args.self.now in
    let list = c.args.new.now.parents.now in
    let put = copied b.used b.parents.now list c.copy_from_slice.new.self c.copy_from_slice.ensures.after (omega arith) in
    subst Proper (sym (ap (λ p. commits b.rows.now p b.count) put ∙ commits_stand b.rows.now b.count b.rowed b.parents.now b.used list (omega arith) b.inside)) b.proper

pub invariant_of-self-clause-computed : goal.invariant_of-self-clause-computed
invariant_of-self-clause-computed g c =
    let k = g.K.LabelKind in
    let b = c.args.self.now in
    let rows = b.rows.now in
    let n = b.count in
    let list = c.args.new.now.parents.now in
    let put = copied b.used b.parents.now list c.copy_from_slice.new.self c.copy_from_slice.ensures.after (omega arith) in
    subst (λ h. Computed k.start k.grown h rows b.labels.now n b.used)
    (sym (ap (λ p. commits rows p n) put ∙ commits_stand rows n b.rowed b.parents.now b.used list (omega arith) b.inside)) b.computed

-- with the row written, but not counted
pub invariant_of-self-2-clause-inside : goal.invariant_of-self-2-clause-inside
invariant_of-self-2-clause-inside g c =
    let b = c.args.self.now in
    let rows = b.rows.now in
    let n = b.count in
    let list = c.args.new.now.parents.now in
    let row = new_row c.args.new.now c.growth-growth.result b.used in
    rows_stand rows n row (omega arith) (λ _ r. r.from + r.size ≤ b.used) b.inside

pub invariant_of-self-2-clause-earlier : goal.invariant_of-self-2-clause-earlier
invariant_of-self-2-clause-earlier g c =
    let b = c.args.self.now in
    let rows = b.rows.now in
    let n = b.count in
    let list = c.args.new.now.parents.now in
    let put = copied b.used b.parents.now list c.copy_from_slice.new.self c.copy_from_slice.ensures.after (omega arith) in
    let row = new_row c.args.new.now c.growth-growth.result b.used in
    subst (λ p. Earlier (set rows n row) p n) (sym put)
    (λ k j lt q. rows_stand rows n row (omega arith) (λ k r. (j : ℕ) → j < r.size → get_or (behind b.parents.now b.used list) (r.from + j) 0 < k)
    (λ k lt j q. earlier_stands rows n b.parents.now b.used list (omega arith) b.inside b.earlier k j lt q) k lt j q)

pub invariant_of-self-2-clause-bounded : goal.invariant_of-self-2-clause-bounded
invariant_of-self-2-clause-bounded g c =
    let b = c.args.self.now in
    let rows = b.rows.now in
    let n = b.count in
    let list = c.args.new.now.parents.now in
    let row = new_row c.args.new.now c.growth-growth.result b.used in
    rows_stand rows n row (omega arith) (λ k r. (r.level ≤ k + 1) × (r.corrected ≤ 17179869183 + k)) b.bounded

pub invariant_of-self-2-clause-proper : goal.invariant_of-self-2-clause-proper
invariant_of-self-2-clause-proper g c =
    let b = c.args.self.now in
    let rows = b.rows.now in
    let n = b.count in
    let list = c.args.new.now.parents.now in
    let put = copied b.used b.parents.now list c.copy_from_slice.new.self c.copy_from_slice.ensures.after (omega arith) in
    let row = new_row c.args.new.now c.growth-growth.result b.used in
    let stands = ap (λ p. commits (set rows n row) p n) put ∙ history_stands rows n row b.rowed b.parents.now b.used list (omega arith) b.inside in
    subst Proper (sym stands) b.proper

pub invariant_of-self-2-clause-computed : goal.invariant_of-self-2-clause-computed
invariant_of-self-2-clause-computed g c =
    let b = c.args.self.now in
    let rows = b.rows.now in
    let n = b.count in
    let list = c.args.new.now.parents.now in
    let put = copied b.used b.parents.now list c.copy_from_slice.new.self c.copy_from_slice.ensures.after (omega arith) in
    let row = new_row c.args.new.now c.growth-growth.result b.used in
    let stands = ap (λ p. commits (set rows n row) p n) put ∙ history_stands rows n row b.rowed b.parents.now b.used list (omega arith) b.inside in
    computed_stands b.computed row stands
