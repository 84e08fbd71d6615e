use Rattle.std.proofs.Common.{sym, ◌∙◌}
use Rattle.pbd_store.proofs.Listing.{count_is, copied_kept, copied_listed}
use Rattle.pbd_store.proofs.columns.Columns.copy_from.Goals as goal

pub invariant_of-self : goal.invariant_of-self
invariant_of-self g c = copied_kept c.other.invariant.padded c.other.view_is c.self.inside.count
    (count_is c.self.invariant.padded c.self.view_is
    ∙ c.requires ∙ sym (count_is c.other.invariant.padded c.other.view_is)) c.copy_from.new.self c.copy_from-2.new.self
    c.copy_from_slice.new.self.items c.copy_from_slice-2.new.self.items c.copy_from.ensures c.copy_from-2.ensures
    (c.copy_from_slice.ensures.items
    ∙ c.deref.ensures.value) (c.copy_from_slice-2.ensures.items ∙ c.deref-2.ensures.value) c.other.inside.effective.items
    c.copy_from_slice-3.new.self.items c.other.invariant.long c.other.invariant.weighs
    (c.copy_from_slice-3.ensures.items ∙ c.deref-3.ensures.value)

pub returns : goal.returns
returns g c = copied_listed c.other.invariant.padded c.other.view_is c.self.inside.count
    (count_is c.self.invariant.padded c.self.view_is ∙ c.requires
    ∙ sym (count_is c.other.invariant.padded c.other.view_is)) c.copy_from.new.self c.copy_from-2.new.self c.copy_from_slice.new.self.items
    c.copy_from_slice-2.new.self.items c.copy_from.ensures c.copy_from-2.ensures (c.copy_from_slice.ensures.items ∙ c.deref.ensures.value)
    (c.copy_from_slice-2.ensures.items ∙ c.deref-2.ensures.value)
