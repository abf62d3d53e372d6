-- When a load is refused, and what is known where it is not. Assumes nothing.
use Rattle.std.proofs.Common.{◌≡◌, ℕ, ◌≤◌, ◌||◌, ltb, List, None, Option, ap, ◌∙◌, ap₂, arith}
use Rattle.std.specs.Option.{option_map}
use Rattle.std.proofs.lemmas.Bool.{or_parts, ltb-false, le-ltb, cond-false}
use Rattle.graph_reader.specs.Bytes.{told_count}
use Rattle.graph_reader.specs.Faults.{either}
use Rattle.graph_reader.specs.Verdict.{file_fault, parents_in, total_of}
use Rattle.graph_reader.proofs.Options.{either_none, mapped_none, cond_none}
use Rattle.history.specs.declared.refusal.Refusal.TheVariants.{CapacityPassed, ParentCapacityPassed, BufferTooShort}
use Rattle.loading.specs.declared.refusal.LoadRefusal.{LoadRefusal}
use Rattle.loading.specs.declared.refusal.LoadRefusal.TheVariants.{HistoryNotEmpty, FileFault, Refused}
use Rattle.loading.specs.Loads.{room_refusal, load_refusal}

-- there is room for the commits, their parents and the buffers
pub record HasRoom (capacity parent_capacity commits parents queue places : ℕ) : Type 0 where
  pub commit_room : commits ≤ capacity
  pub parent_room : parents ≤ parent_capacity
  pub queue_room : commits ≤ queue
  pub place_room : commits ≤ places

module _ (capacity parent_capacity commits parents queue places : ℕ) where
  room_known : room_refusal capacity parent_capacity commits parents queue places ≡ None → HasRoom capacity parent_capacity commits parents queue places
  room_known e =
      let a = cond_none (ltb capacity commits) CapacityPassed _ e in
      let b = cond_none (ltb parent_capacity parents) ParentCapacityPassed _ a.1 in
      let c = cond_none (ltb queue commits || ltb places commits) BufferTooShort None b.1 in
      let d = or_parts (ltb queue commits) (ltb places commits) c.0 in
      record {
        commit_room = ltb-false capacity commits a.0;
        parent_room = ltb-false parent_capacity parents b.0;
        queue_room = ltb-false queue commits d.0;
        place_room = ltb-false places commits d.1;
      }

  room_suffices : HasRoom capacity parent_capacity commits parents queue places → room_refusal capacity parent_capacity commits parents queue places ≡ None
  room_suffices r =
      cond-false _ _ _ (le-ltb capacity commits r.commit_room) ∙ cond-false _ _ _ (le-ltb parent_capacity parents r.parent_room)
      ∙ cond-false _ _ _ (ap₂ ◌||◌ (le-ltb queue commits r.queue_room) (le-ltb places commits r.place_room))

module _ (held capacity parent_capacity : ℕ) (file : List ℕ) (queue places : ℕ) where
  abbrev verdict : Option LoadRefusal
  verdict = load_refusal held capacity parent_capacity file queue places

  abbrev rooms : Option LoadRefusal
  rooms = option_map Refused (room_refusal capacity parent_capacity (told_count file) (total_of (parents_in file)) queue places)

  pub record Loadable : Type 0 where
    pub empty : held ≡ 0
    pub fine : file_fault file ≡ None
    pub room : HasRoom capacity parent_capacity (told_count file) (total_of (parents_in file)) queue places

  pub loadable : verdict ≡ None → Loadable
  unfolding load_refusal room_known
  loadable e =
      let a = cond_none (ltb 0 held) HistoryNotEmpty _ e in
      let b = either_none FileFault (file_fault file) rooms a.1 in
      record {
        empty = omega (arith, ltb-false 0 held a.0);
        fine = b.0;
        room = room_known capacity parent_capacity (told_count file) (total_of (parents_in file)) queue places (mapped_none Refused _ b.1);
      }

  pub not_refused : Loadable → verdict ≡ None
  unfolding load_refusal room_suffices
  not_refused l =
      cond-false _ _ _ (le-ltb 0 held (omega (arith, l.empty))) ∙ ap (λ x. either (option_map FileFault x) rooms) l.fine
      ∙ ap (option_map Refused) (room_suffices capacity parent_capacity (told_count file) (total_of (parents_in file)) queue places l.room)
