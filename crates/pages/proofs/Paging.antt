-- Filling a page line by line: a line put or left out, the page begun, gone on with, and ended. Assumes nothing.
use mathlib.Core.Path.{◌≡◌, refl, sym, ap, ap₂, ◌∙◌, subst}
use mathlib.Core.Bool.{Bool, true, false}
use mathlib.Core.List.{List, [], ◌∷◌, ◌++◌, append_assoc, append-nil}
use Prim.Native.Nat.{ℕ, suc, ◌+◌, ◌-◌, ◌≤◌, ◌<◌}
use native.Mathlib.Nat.{add-zero, sub-zero}
use native.Mathlib.Numerals.{add-one}
use native.Mathlib.Omega.{arith}
use borrow.Author.Tests.{leb-true}
use lib.Dec.{leb}
use lib.ListN.{length, get_or, take, drop, length-append, length-drop, drop_of_length-le}
use lib.Seq.{drop-cons, append_snoc, take_at, drop-append-add, drop-drop}
use Rattle.bundle.specs.Lists.{back_to_back}
use Rattle.std.specs.declared.result.Result.{Result}
use Rattle.std.specs.declared.result.Result.TheVariants.{Ok, Err}
use Rattle.bundle.specs.Answer.{Answer, gives, refuses, answer_of}
use Rattle.bundle.specs.Commands.{Lent, written}
use Rattle.bundle.specs.declared.refusal.Refusal.{Refusal}
use Rattle.text.specs.Lines.{printed_at}
use Rattle.listing.specs.Listing.{over}
use Rattle.listing.specs.declared.list.Totals.{Totals}
use Rattle.pages.specs.Listings.{lines_in, page_of, page_from}
use Rattle.pages.specs.Inner.{PutNext}
use Rattle.pages.proofs.Indexing.{lines-count, line-some-at}

-- the position that an answer gives, or the one before
abbrev end_of : ℕ → Answer ℕ → ℕ
end_of at (gives n) = n
end_of at (refuses n p) = at

put-parts : (line s : List ℕ) (at : ℕ) → PutNext line s at (end_of at (printed_at line s at).answer) (printed_at line s at).buffer
unfolding printed_at
put-parts line s at = go (leb (length line) (length s - at)) refl
  where
    go : (t : Bool) → leb (length line) (length s - at) ≡ t → PutNext line s at (end_of at (printed_at line s at).answer) (printed_at line s at).buffer
    go true e = record { next = rw e; bytes = rw e }
    go false e = record { next = rw e; bytes = rw e }

module _ {line s t : List ℕ} {at : ℕ} (r : Result ℕ Refusal) (e : printed_at line s at ≡ record { answer = answer_of r; buffer = t }) where
  pub put-next-of : PutNext line s at (end_of at (answer_of r)) t
  put-next-of = subst (λ (x : Lent ℕ). PutNext line s at (end_of at x.answer) x.buffer) e (put-parts line s at)

  pub next-written : {next : ℕ} → r ≡ Ok next → PutNext line s at next t
  next-written q = subst (λ (x : Result ℕ Refusal). PutNext line s at (end_of at (answer_of x)) t) q put-next-of

  pub next-refused : {refusal : Refusal} → r ≡ Err refusal → PutNext line s at at t
  next-refused q = subst (λ (x : Result ℕ Refusal). PutNext line s at (end_of at (answer_of x)) t) q put-next-of

-- a page by its first line
pub page-more : (room : ℕ) (line : List ℕ) (lines : List (List ℕ)) → leb (length line) room ≡ true → page_of room (line ∷ lines) ≡ line ∷ page_of (room - length line) lines
unfolding page_of
page-more room line lines e = rw (e, page_of)

pub page-none : (room : ℕ) (line : List ℕ) (lines : List (List ℕ)) → leb (length line) room ≡ false → page_of room (line ∷ lines) ≡ []
unfolding page_of
page-none room line lines e = rw (e, page_of)

pub page-over : (room : ℕ) → page_of room [] ≡ []
unfolding page_of
page-over room = refl

-- lists back to back
pub back-append : {A : Type 0} (xss yss : List (List A)) → back_to_back (xss ++ yss) ≡ back_to_back xss ++ back_to_back yss
back-append [] yss = refl
back-append (xs ∷ xss) yss = ap (λ (l : List _). xs ++ l) (back-append xss yss) ∙ sym (append_assoc xs (back_to_back xss) (back_to_back yss))

pub back_more : {A : Type 0} (xss : List (List A)) (xs : List A) → back_to_back (xss ++ (xs ∷ [])) ≡ back_to_back xss ++ xs
back_more xss xs = back-append xss (xs ∷ []) ∙ ap (λ (l : List _). back_to_back xss ++ l) (append-nil xs)

-- bytes at the front of a buffer, and a line behind them
pub over-length : (b s : List ℕ) → length b ≤ length s → length (over b s) ≡ length s
over-length b s h = omega (arith, length-append b (drop (length b) s), length-drop (length b) s)

over-more : (b s line : List ℕ) (at : ℕ) → at ≡ length b → written (over b s) at line ≡ over (b ++ line) s
unfolding written
over-more b s line at e =
    ap₂ (λ (x y : List ℕ). x ++ line ++ y) (take_at b (drop (length b) s) at (sym e))
    (ap (λ (k : ℕ). drop (k + length line) (over b s)) e
    ∙ drop-append-add b (drop (length b) s) (length line)
    ∙ drop-drop (length line) (length b) s
    ∙ ap (λ (k : ℕ). drop k s) (sym (length-append b line)))

-- the page so far: the lines `done`, and those that still go into it
pub record PageTo (lines : List (List ℕ)) (from : ℕ) (s : List ℕ) (next size : ℕ) (t : List ℕ) : Type 0 where
  pub done : List (List ℕ)
  pub page : page_of (length s) (drop from lines) ≡ done ++ page_of (length s - size) (drop next lines)
  pub count : next ≡ from + length done
  pub bytes : size ≡ length (back_to_back done)
  pub fits : size ≤ length s
  pub text : t ≡ over (back_to_back done) s

pub page-begun : (lines : List (List ℕ)) (from : ℕ) (s : List ℕ) → PageTo lines from s from 0 s
page-begun lines from s =
    record {
      done = [];
      page = ap (λ (k : ℕ). page_of k (drop from lines)) (sym (sub-zero (length s)));
      count = sym (add-zero from);
      bytes = refl;
      fits = omega arith;
      text = refl;
    }

module _ {lines : List (List ℕ)} {from next size : ℕ} {s t : List ℕ} (p : PageTo lines from s next size t) where
  pub page-length : length t ≡ length s
  page-length = ap length p.text ∙ over-length (back_to_back p.done) s (omega (arith, p.bytes, p.fits))

  -- all lines that fit are done
  finished : (u : List ℕ) → u ≡ t → page_of (length s - size) (drop next lines) ≡ []
      → page_from lines from s ≡ record { page = record { next = next; size = size }; buffer = u }
  unfolding page_from
  finished u same none =
      let whole : page_of (length s) (drop from lines) ≡ p.done = p.page ∙ ap (λ (l : List (List ℕ)). p.done ++ l) none ∙ append-nil p.done in
      rw (whole, same, p.text, p.count, p.bytes)

  pub page-ended : length lines ≤ next → page_from lines from s ≡ record { page = record { next = next; size = size }; buffer = t }
  page-ended h = finished t refl (ap (page_of (length s - size)) (drop_of_length-le lines h) ∙ page-over (length s - size))

  module _ {after : ℕ} {u : List ℕ} (more : next < length lines) (put : PutNext (get_or lines next []) t size after u) where
    abbrev line : List ℕ
    line = get_or lines next []

    line-next : drop next lines ≡ line ∷ drop (suc next) lines
    line-next = drop-cons lines next [] more

    abbrev test : Bool
    test = leb (length line) (length t - size)

    roomy : {b : Bool} → test ≡ b → leb (length line) (length s - size) ≡ b
    roomy e = ap (λ (k : ℕ). leb (length line) (k - size)) (sym page-length) ∙ e

    fitted : test ≡ true → PageTo lines from s (next + 1) after u
    fitted e =
        let room : length line ≤ length s - size = leb-true (length line) (length s - size) (roomy e) in
        let put_next : after ≡ size + length line = put.next ∙ rw e in
        let put-bytes : u ≡ written t size line = put.bytes ∙ rw e in
        let back : back_to_back (p.done ++ (line ∷ [])) ≡ back_to_back p.done ++ line = back_more p.done line in
        let left : length s - size - length line ≡ length s - after = omega arith in
        record {
          done = p.done ++ (line ∷ []);
          page =
              p.page
              ∙ ap (λ (l : List (List ℕ)). p.done ++ page_of (length s - size) l) line-next
              ∙ ap (λ (l : List (List ℕ)). p.done ++ l) (page-more (length s - size) line (drop (suc next) lines) (roomy e))
              ∙ sym (append_snoc p.done line (page_of (length s - size - length line) (drop (suc next) lines)))
              ∙ ap₂ (λ (k n : ℕ). p.done ++ (line ∷ []) ++ page_of k (drop n lines)) left (sym (add-one next));
          count = omega (arith, p.count, length-append p.done (line ∷ []));
          bytes = omega (arith, put_next, p.bytes, ap length back, length-append (back_to_back p.done) line);
          fits = omega (arith, put_next, room, p.fits);
          text =
              put-bytes
              ∙ ap (λ (l : List ℕ). written l size line) p.text
              ∙ over-more (back_to_back p.done) s line size p.bytes
              ∙ ap (λ (l : List ℕ). over l s) (sym back);
        }

    pub page-gone-on : (after ≡ size → ⊥) → PageTo lines from s (next + 1) after u
    page-gone-on moved = go test refl
      where
        go : (b : Bool) → test ≡ b → PageTo lines from s (next + 1) after u
        go true e = fitted e
        go false e = absurd (moved (put.next ∙ rw e))

    pub page-full : 1 ≤ length line → after ≡ size → page_from lines from s ≡ record { page = record { next = next; size = size }; buffer = u }
    page-full some still = go test refl
      where
        go : (b : Bool) → test ≡ b → page_from lines from s ≡ record { page = record { next = next; size = size }; buffer = u }
        go true e =
            let put_next : after ≡ size + length line = put.next ∙ rw e in
            absurd (omega (arith, put_next))
        go false e =
            finished u (put.bytes ∙ rw e) (ap (page_of (length s - size)) line-next ∙ page-none (length s - size) line (drop (suc next) lines) (roomy e))

-- the same at the numbers of the code
module _ (t : Totals) (names numbers : List ℕ) {lines from next size : ℕ} {s b : List ℕ} (count : lines ≡ length (take t.races numbers) + 2)
    (p : PageTo (lines_in t names numbers) from s next size b) where
  pub fill-ended : lines ≤ next → page_from (lines_in t names numbers) from s ≡ record { page = record { next = next; size = size }; buffer = b }
  fill-ended h = page-ended p (omega (arith, count, lines-count t names numbers))

  module _ {after : ℕ} {u : List ℕ} (more : next < lines) (put : PutNext (get_or (lines_in t names numbers) next []) b size after u) where
    below : next < length (lines_in t names numbers)
    below = omega (arith, count, lines-count t names numbers)

    pub fill-gone-on : (after ≡ size → ⊥) → PageTo (lines_in t names numbers) from s (next + 1) after u
    fill-gone-on moved = page-gone-on p below put moved

    pub fill-full : after ≡ size → page_from (lines_in t names numbers) from s ≡ record { page = record { next = next; size = size }; buffer = u }
    fill-full still = page-full p below put (line-some-at t names numbers next (omega (arith, count))) still
