-- Records that were put one by one. Assumes nothing.
use Rattle.std.proofs.Common.{ℕ, ◌+◌, ◌<◌, List, [], ◌≡◌, ◌∙◌, sym, ap, subst, length, get_or, take}
use Rattle.std.specs.List.{flat_map}
use Rattle.std.proofs.lemmas.Grind.{flat_map-append}
use Rattle.std.proofs.lemmas.List.{take_more}
use mathlib.Core.List.{append-nil}
use Rattle.page.specs.declared.Page.{Page}
use Rattle.page.specs.Added.{Added}
use Rattle.page.proofs.Laws.Added.{added_nothing, added_both}
use Rattle.writer.specs.Inner.Records.{bytes_of}
use Rattle.bits.specs.Wrote.{put_at}
use Rattle.put.proofs.Laws.Head.{length_head}
use Rattle.put.specs.Head.{head_of}
use Rattle.records.specs.Record.{record_of}
use Rattle.writer.proofs.Laws.PutAt.{whole_put}
use Rattle.records.specs.declared.kinds.Kind.{Kind}
use Rattle.std.specs.Borrow.{Bor}

pub records_none : (page : Page) → Added (flat_map bytes_of []) page page
records_none page = added_nothing page

pub records_more :
    (rs : List (Kind × Bor (List ℕ))) (i : ℕ) (d : Kind × Bor (List ℕ)) {old mid new : Page} → i < length rs → Added (flat_map bytes_of (take i rs)) old mid
    → Added (bytes_of (get_or rs i d)) mid new → Added (flat_map bytes_of (take (i + 1) rs)) old new
records_more rs i d h p q = rw (take_more rs i d h, flat_map-append, append-nil) (added_both p q)

-- a head that was made in a place of its own, and the contents
pub added_record :
    (kind number : ℕ) (contents place : List ℕ) {head : List ℕ} {old mid new : Page} → number ≡ kind → length place ≡ 6
    → head ≡ put_at place 0 (head_of number (length contents)) → Added head old mid → Added contents mid new → Added (record_of kind contents) old new
unfolding record_of
added_record kind number contents place {old = old} {mid} e long h p q =
    let made : head_of number (length contents) ≡ head_of kind (length contents) = ap (λ (k : ℕ). head_of k (length contents)) e in
    let whole = whole_put place (head_of number (length contents)) (length_head number (length contents) ∙ sym long) in
    added_both (subst (λ (l : List ℕ). Added l old mid) (h ∙ whole ∙ made) p) q
