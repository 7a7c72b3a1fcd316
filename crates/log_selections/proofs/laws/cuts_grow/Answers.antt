use Rattle.log_selections.proofs.CutGrowth.{cut_push, cut_push_nothing, cut_push_processor, cut_push_left_out, more_cut, more_cuts}
use Rattle.log_selections.proofs.laws.cuts_grow.Goals as goal

pub returns : goal.returns
returns c = record {
  operation = λ addresses n xs ys origins x kept here cut is. cut_push addresses n xs ys origins cut x kept here is;
  left_out_operation = λ addresses n xs ys origins x cut. cut_push_nothing addresses n xs ys origins cut x;
  processor = λ addresses n logs lists origins xs ys here cuts cut. cut_push_processor addresses n logs lists origins cuts xs ys here cut;
  left_out_processor = λ addresses n logs lists origins xs cuts. cut_push_left_out addresses n logs lists origins cuts xs;
  more_addresses = λ addresses more n xs ys origins cut. more_cut addresses more n xs ys origins cut;
  more_addresses_of_lists = λ addresses more n logs lists origins cuts. more_cuts addresses more n logs lists origins cuts;
}
