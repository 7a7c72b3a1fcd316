mod Numbered
mod Stops
mod ReportTexts
mod Readings
mod PlaceKinds
mod Accounts
mod TextOrders
mod Texts
