-- What `desk::fill` has read stands at the front of the space: each read goes on where the last one ended. Assumes nothing.
use Rattle.std.proofs.Common.{◌≡◌, ℕ, ◌+◌, ◌-◌, ◌≤◌, List, ◌++◌, rules, length, take, sym, ap, ◌∙◌, subst, length-take-le}
use Rattle.std.proofs.lemmas.List.{take-append-le}
use Rattle.std.proofs.Math.Seq.{take-append-add}
use Rattle.std.proofs.KnownBytes.{Consumes-trans}
use Rattle.std.specs.Io.KnownBytes.{Consumes}
use borrow.Rule.Slice.PartMut.{put_mid, post_of}
use Rattle.desk.proofs.fill.Goals as goal

-- the front, and what is put behind it
front_longer : (a k n : ℕ) (xs ys : List ℕ) → a ≤ length xs → n ≤ length ys → take (a + n) (put_mid a k xs ys) ≡ take a xs ++ take n ys
front_longer a k n xs ys within fits =
    let after = post_of a k xs in
    ap (λ m. take (m + n) (put_mid a k xs ys)) (sym (length-take-le a xs within)) ∙ take-append-add (take a xs) (ys ++ after) n
    ∙ ap (λ l. take a xs ++ l) (take-append-le n ys after fits)

pub loop-n-preserved : goal.loop-n-preserved
loop-n-preserved g c =
    let from = c.loop-n.n in
    let room = length c.loop-n.space - from in
    let longer = front_longer from room c.in-Ok.more c.loop-n.space c.read.new.buf c.loop-n.invariant.within c.in-Ok.ensures.bound.0 in
    record {
      within = search rules;
      known = subst (Consumes _ _) (sym longer) (Consumes-trans _ _ _ _ _ c.loop-n.invariant.known c.in-Ok.ensures.bytes.0);
    }
