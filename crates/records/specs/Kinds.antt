-- The kinds of record, and of the reply record alone, by their numbers (01, "The certificate"; 02, T-07). Assumes nothing.
use Rattle.std.specs.Prelude.{ℕ, cond, eqb, Result, Ok, Err}
use Rattle.records.specs.Record.{circuit_kind, region_kind, reply_kind, attack_kind, packed_kind}
use Rattle.records.specs.declared.kinds.Kind.{Kind}
use Rattle.records.specs.declared.kinds.Kind.TheVariants.{Circuit, Region, Replies, Attacks, Packed as PackedReplies}
use Rattle.records.specs.declared.kinds.ReplyKind.{ReplyKind}
use Rattle.records.specs.declared.kinds.ReplyKind.TheVariants.{Bytes, Packed}
use Rattle.records.specs.declared.kinds.UnknownKind.{UnknownKind}

abbrev pub kind_number : Kind → ℕ
kind_number Circuit = circuit_kind
kind_number Region = region_kind
kind_number Replies = reply_kind
kind_number Attacks = attack_kind
kind_number PackedReplies = packed_kind

abbrev pub kind_of : ℕ → Result Kind UnknownKind
kind_of number =
    cond (eqb number circuit_kind) (Ok Circuit)
    (cond (eqb number region_kind) (Ok Region)
    (cond (eqb number reply_kind) (Ok Replies)
    (cond (eqb number attack_kind) (Ok Attacks)
    (cond (eqb number packed_kind) (Ok PackedReplies) (Err (record { 0 = number }))))))

abbrev pub reply_kind_number : ReplyKind → ℕ
reply_kind_number Bytes = reply_kind
reply_kind_number Packed = packed_kind

-- the kind of reply record that a number stands for, if it does
abbrev pub stored_as : ℕ → ReplyKind
stored_as number = cond (eqb number packed_kind) Packed Bytes

abbrev pub reply_kind_of : ℕ → Result ReplyKind UnknownKind
reply_kind_of number =
    cond (eqb number reply_kind) (Ok Bytes) (cond (eqb number packed_kind) (Ok Packed) (Err (record { 0 = number })))
