pub mod WideOrders
