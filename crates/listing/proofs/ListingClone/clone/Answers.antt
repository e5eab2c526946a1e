use Rattle.std.proofs.Common.{rules}
use Rattle.listing.proofs.Copies.{copied}
use Rattle.listing.proofs.ListingClone.clone.Goals as goal

pub returns : goal.returns
returns g c =
    record {
      cases =
          copied g.T.Clone.is_clone c.args.self.now (search rules) _ c.in_ok-clone.field-0 c.in_ok-clone-2.field-0 c.in_ok-clone-3.field-0 c.in_ok-clone-4.field-0 c.in_ok-clone-5.field-0 c.in_ok-clone-6.field-0 c.in_ok-clone-7.field-0 c.in_ok-clone-8.field-0 c.in_ok-clone-9.field-0
          (c.index-self-0.result, c.in_ok-clone.ensures.cases) (c.index-self-1.result, c.in_ok-clone-2.ensures.cases) (c.index-self-2.result, c.in_ok-clone-3.ensures.cases) (c.index-self-3.result, c.in_ok-clone-4.ensures.cases) (c.index-self-4.result, c.in_ok-clone-5.ensures.cases) (c.index-self-5.result, c.in_ok-clone-6.ensures.cases) (c.index-self-6.result, c.in_ok-clone-7.ensures.cases) (c.index-self-7.result, c.in_ok-clone-8.ensures.cases) (c.index-self-8.result, c.in_ok-clone-9.ensures.cases);
    }
