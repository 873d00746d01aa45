-- The segments of a bundle by the comparison of their labels (A.8): before composes, same holds for one segment only with itself, and keys sort them.
use Prim.Native.Nat.{ℕ, ◌%◌}
use mathlib.Core.Path.{◌≡◌, refl, sym, ◌∙◌, ap, subst}
use mathlib.Core.Bool.{true}
use mathlib.Core.List.{List, ◌∷◌}
use Rattle.bundle.specs.Answer.{gives}
use Rattle.bundle.specs.Chunks.{chunks_of}
use Rattle.bundle.specs.Walk.{forks_of}
use Rattle.bundle.specs.Check.{Accepted}
use Rattle.order.specs.Labels.{segment_label, counted, holding, compare_of}
use Rattle.order.specs.declared.label.Triple.{Triple}
use Rattle.order.specs.declared.label.Order.TheVariants as Ord
use Rattle.order.proofs.Climbs.{holding-counted}
use Rattle.order.proofs.TripleOrder.{by_interval, by_offset}
use Rattle.order.proofs.LabelOrder.{LabelBefore, shorter, deeper, parted, Apart, apart_deeper, apart_here}
use Rattle.order.proofs.ComposedLabels.{given, meaning, composes}
use Rattle.verdict.specs.Accesses.{lex_less}
use Rattle.verdict.specs.Agreement.{Agrees}
use Rattle.verdict.specs.Graph.{Segment}
use Rattle.verdict.specs.SegmentOrder.{label_at, order_in, SegmentIn, BeforeComposes, SameIsItself, sort_key, SortedByKey}
use Rattle.verdict.proofs.Lexical.{less-head, less-tail, less-irreflexive}
use Rattle.verdict.proofs.BundleForkJoin.{fork-join, label-found}
use Rattle.verdict.proofs.LabelPaths.{Related, related_same, related_before, related_after, related_apart, compared}
use Rattle.verdict.proofs.LabelsAgree.{labels-agree}

-- the key of a label that is before another is lower
key-before : {as' bs : List Triple} → LabelBefore as' bs → lex_less (sort_key as') (sort_key bs) ≡ true
unfolding sort_key
key-before shorter = unfold lex_less in refl
key-before (deeper {a = a} {b = b} {as' = as'} {bs = bs} e r) =
    less-tail a.interval b.interval (a.offset ∷ sort_key as') (b.offset ∷ sort_key bs) (ap (λ (t : Triple). t.interval) e)
    (less-tail a.offset b.offset (sort_key as') (sort_key bs) (ap (λ (t : Triple). t.offset) e) (key-before r))
key-before (parted {a = a} {b = b} {as' = as'} {bs = bs} (by_interval s i)) =
    less-head a.interval b.interval (a.offset ∷ sort_key as') (b.offset ∷ sort_key bs) i
key-before (parted {a = a} {b = b} {as' = as'} {bs = bs} (by_offset s i m o)) =
    less-tail a.interval b.interval (a.offset ∷ sort_key as') (b.offset ∷ sort_key bs) i
    (less-head a.offset b.offset (sort_key as') (sort_key bs) o)

-- labels that are concurrent have different keys
key_apart : {as' bs : List Triple} → Apart as' bs → sort_key as' ≡ sort_key bs → ⊥
unfolding sort_key
key_apart (apart_deeper {as' = as'} {bs = bs} e r) q = let w : sort_key as' ≡ sort_key bs = cc in key_apart r w
key_apart (apart_here {a = a} {b = b} s i m) q = let w : a.offset ≡ b.offset = cc in m (ap (λ (n : ℕ). n % a.span) w)

-- what is told of two segments is the order on which labels and graph agree
agreed : {s : List ℕ} {g h : Segment} (a : Agrees s g h) → order_in s g.node h.node ≡ gives a.order
unfolding order_in label_at
agreed a = rw (a.first_label, a.second_label) a.compared

module _ (s : List ℕ) (ok : Accepted s) where
  abbrev label : Segment → List Triple
  label g = segment_label (forks_of (chunks_of s)) g.node.team g.node.member g.state

  labelled : {g : Segment} → SegmentIn s g → label_at s g.node ≡ gives (label g)
  unfolding label_at
  labelled m = label-found s ok m

  -- what is told of two segments is what comparing their labels gives
  told : {g h : Segment} → SegmentIn s g → SegmentIn s h → order_in s g.node h.node ≡ compare_of (holding (label g)) (holding (label h))
  unfolding order_in
  told m n = rw (labelled m, labelled n)

  label-before : {g h : Segment} → SegmentIn s g → SegmentIn s h → order_in s g.node h.node ≡ gives Ord.Before → LabelBefore (label g) (label h)
  label-before {g} {h} m n e =
      let one = holding (label g) in
      let other = holding (label h) in
      let r = meaning one other (given one other (sym (told m n) ∙ e)) in
      subst (λ (l : List Triple). LabelBefore l (label h)) (holding-counted (label g)) (subst (LabelBefore (counted one)) (holding-counted (label h)) r)

  one_key : {g h : Segment} → SegmentIn s g → SegmentIn s h → sort_key (label g) ≡ sort_key (label h) → g ≡ h
  one_key {g} {h} m n e = go (compared (fork-join s ok) m n)
    where
      go : Related (fork-join s ok) (label g) (label h) g h → g ≡ h
      go (related_same f q) = q
      go (related_before r p) = absurd (less-irreflexive (sort_key (label h)) (subst (λ (l : List ℕ). lex_less l (sort_key (label h)) ≡ true) e (key-before r)))
      go (related_after r p) = absurd (less-irreflexive (sort_key (label h)) (subst (λ (l : List ℕ). lex_less (sort_key (label h)) l ≡ true) e (key-before r)))
      go (related_apart r) = absurd (key_apart r e)

pub before-composes : BeforeComposes
before-composes s ok g h i m n o e f =
    told s ok m o
    ∙ composes (holding (label s ok g)) (holding (label s ok h)) (holding (label s ok i)) (sym (told s ok m n) ∙ e) (sym (told s ok n o) ∙ f)

pub same-is-itself : SameIsItself
same-is-itself s ok g h m n =
    let a = labels-agree s ok g h m n in
    let t = agreed a in
    (λ e. (fork-join s ok).one m n ((a.exactly Ord.Same).0 (cc)), λ e. t ∙ ap gives ((a.exactly Ord.Same).1 (ap (λ (x : Segment). x.node) e)))

pub sorted-by-key : SortedByKey
sorted-by-key s ok g h m n =
    record {
      first = label s ok g;
      second = label s ok h;
      first_label = labelled s ok m;
      second_label = labelled s ok n;
      before = λ e. key-before (label-before s ok m n e);
      one = one_key s ok m n;
    }
