use Rattle.std.proofs.Common.{refl}
use Rattle.log_selections.proofs.KeepingFacts.{kept_membar, kept_stbar, kept_load, kept_store, kept_swap_load, kept_swap_store, kept_swap}
use Rattle.log_selections.proofs.keeping.origins_of.Goals as goal

pub returns-in-Ld-Ld : goal.returns-in-Ld-Ld
returns-in-Ld-Ld c = kept_load _ _ _ _ _ _ (c.if-is_at.ensures refl) _ _ c.in-Ld-Ld.is-0 c.in-Ld-Ld.is-1

pub returns-in-St-St : goal.returns-in-St-St
returns-in-St-St c = kept_store _ _ _ _ _ _ (c.if-is_at-2.ensures refl) _ _ c.in-St-St.is-0 c.in-St-St.is-1

pub returns-in-Sw-Ld : goal.returns-in-Sw-Ld
returns-in-Sw-Ld c = kept_swap_load _ _ _ _ _ _ (c.if-is_at-3.ensures refl) _ _ _ c.in-Sw-Ld.is-0 c.in-Sw-Ld.is-1

pub returns-in-Sw-St : goal.returns-in-Sw-St
returns-in-Sw-St c = kept_swap_store _ _ _ _ _ _ (c.if-is_at-4.ensures refl) _ _ _ _ c.in_ok-store.ensures.1 c.in-Sw-St.is-0 c.in-Sw-St.is-1

pub returns-in-Sw-Sw : goal.returns-in-Sw-Sw
returns-in-Sw-Sw c = kept_swap _ _ _ _ _ _ (c.if-is_at-5.ensures refl) _ _ _ _ _ c.in_ok-store.ensures.1 c.in-Sw-Sw.is-0 c.in-Sw-Sw.is-1

pub returns-in-Mb-Mb : goal.returns-in-Mb-Mb
returns-in-Mb-Mb c = kept_membar _ _ _ _ c.in-Mb-Mb.is-0 c.in-Mb-Mb.is-1

pub returns-in-Mb-Mb-2 : goal.returns-in-Mb-Mb-2
returns-in-Mb-Mb-2 c = kept_stbar _ _ _ _ c.in-Mb-Mb.is-0 c.in-Mb-Mb.is-1
