use Rattle.std.proofs.Common.{◌≡◌, ◌+◌, ◌-◌, ◌*◌, false, ◌&&◌, ltb, leb, Ok, Err, sym, ap, ◌∙◌, arith}
use Rattle.std.proofs.lemmas.Bool.{le-ltb, lt-leb, and_left, and_right}
use Rattle.graph_file.specs.ParentWords.{mark}
use Rattle.graph_reader.specs.Holding.{listed}
use Rattle.history.specs.declared.load_fault.ChunkFault.TheVariants.{WrongParent}
use Rattle.graph_reader.specs.PartParents.{as_fault}
use Rattle.graph_reader.proofs.ParentSteps.{list_from, list_ended, list_long, list_more, list_closed, list_wrong}
use Rattle.graph_reader.proofs.parts.Parts.add_listed.Goals as goal
use Rattle.graph_reader.proofs.parts.Parts.add_listed.Goals.{else-k-gt0-via-then-k-gt0+then-word-ge-MARK+else-word-self-2, else-k-gt0-via-then-k-gt0+else-word-ge-MARK, else-k-gt0-via-else-k-gt0}

pub returns-in_default : goal.returns-in_default
returns-in_default c =
    let k = c.loop-k.k in
    ap (λ at. Err (WrongParent at)) c.place_of-place.ensures
    ∙ ap as_fault (sym (c.loop-k.invariant.1 ∙ list_ended c.args.self.now (listed c.loop-k.list) (c.args.next + k) k c.in_default.ensures))

pub returns-then-word-self-2 : goal.returns-then-word-self-2
returns-then-word-self-2 c =
    let k = c.loop-k.k in
    ap Ok c.push-then-word-self-2.ensures.list
    ∙ ap as_fault (sym (c.loop-k.invariant.1 ∙ list_closed c.args.self.now (listed c.loop-k.list) (c.args.next + k) k c.in-Some.word
    c.in-Some.ensures.0 c.in-Some.ensures.1 c.loop-k-test.true c.if-word-self.false c.if-k-gt0.true c.if-word-ge-MARK.true c.if-word-self-2.true))

pub returns-else-k-gt0 : goal.returns-else-k-gt0
returns-else-k-gt0 c =
    let count = c.args.self.now.count in
    let k = c.loop-k.k in
    let w = c.in-Some.word in
    let fails : (ltb 0 k && (leb mark w && ltb (w - mark) count)) ≡ false =
    elim c.else-k-gt0.branch [
      | else-k-gt0-via-then-k-gt0+then-word-ge-MARK+else-word-self-2 v ↦ and_right (ltb 0 k) _ (and_right (leb mark w) _ (le-ltb (w - mark) count v.if-word-self-2.false))
      | else-k-gt0-via-then-k-gt0+else-word-ge-MARK v ↦ and_right (ltb 0 k) _ (and_left _ _ (lt-leb mark w v.if-word-ge-MARK.false))
      | else-k-gt0-via-else-k-gt0 v ↦ and_left _ _ (le-ltb 0 k v.if-k-gt0.false)
    ] in
    ap (λ at. Err (WrongParent at)) c.place_of-place.ensures
    ∙ ap as_fault (sym (c.loop-k.invariant.1 ∙ list_wrong c.args.self.now (listed c.loop-k.list) (c.args.next + k) k w
    c.in-Some.ensures.0 c.in-Some.ensures.1 c.loop-k-test.true c.if-word-self.false fails))

pub loop-k-preserved : goal.loop-k-preserved
loop-k-preserved c =
    let f = c.args.self.now in
    let k = c.loop-k.k in
    let at = c.args.next + k in
    let next : at + 1 ≡ c.args.next + (k + 1) = omega arith in (
      omega (arith, c.push.ensures.size, c.loop-k.invariant.0),
      c.loop-k.invariant.1
          ∙ list_more f (listed c.loop-k.list) at k c.in-Some.word c.in-Some.ensures.0 c.in-Some.ensures.1 c.loop-k-test.true c.if-word-self.true
          ∙ ap (λ xs. list_from f xs (at + 1) (k + 1)) (sym c.push.ensures.list)
          ∙ ap (λ a. list_from f (listed c.push.new.self) a (k + 1)) next,
    )

pub returns : goal.returns
returns c =
    let f = c.args.self.now in
    let k = c.loop-k.k in
    let at = c.args.next + k in
    let e : at ≡ c.args.next + 63 = omega (arith, c.loop-k-test.false, c.loop-k.auto.k-end) in
    ap (λ at. Err (WrongParent at)) c.place_of.ensures
    ∙ ap as_fault (sym (c.loop-k.invariant.1 ∙ list_long f (listed c.loop-k.list) at k c.loop-k-test.false ∙ ap (λ a. Err (f.edges.place + 4 * a)) e))
