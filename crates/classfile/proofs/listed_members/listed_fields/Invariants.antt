use Rattle.std.proofs.Common.{◌≡◌, ◌++◌, drop, map}
use Rattle.model.specs.ClassFiles.Listing.{listed_field}
use Rattle.classfile.proofs.listed_members.listed_fields.Given as goal

-- the fields so far, and those that follow
abbrev pub invariant-loop-field : goal.invariant-loop-field
invariant-loop-field l = l.all.items ++ map (listed_field l.pool) (drop l.field-index l.fields)
    ≡ map (listed_field l.pool) l.fields
